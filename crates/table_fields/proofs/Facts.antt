-- What holds of the document's tables, computed once over all of them.
-- Assumes nothing.
use Prim.Native.Nat.{ℕ, ◌+◌, ◌≤◌, ◌<◌}
use mathlib.Core.Path.{◌≡◌, refl, sym, ap, ◌∙◌}
use mathlib.Core.Bool.{Bool, true, false}
use mathlib.Core.List.{List, [], map, flatten}
use borrow.Author.Tests.{leb-true, ltb-true, ltb-false}
use lib.ListN.{length, get_or, length-map, get_or-map, get_or-eq_default}
use lib.Dec.{leb, ltb}
use Rattle.table_rows.specs.Rows.{listed, Field, field_at, fields_from, fields_in, first_field, field_count, rows_after, tables_in, value_text_at, values_from}
use Rattle.table_rows.specs.Types.{text}
use Rattle.table_rows.proofs.Laws.{up_from, each, all, all-at, all-total, distinct, distinct-at, among, fields_at, fields-past, fields-of-run, fields-in-length, values-at}
use Rattle.table_fields.specs.Fields.{tables, fields_of}
use Rattle.table_fields.specs.Enumerations.{enumerations, values_of}
use Rattle.table_fields.specs.Flat.{field_rows, field_names, value_places, value_texts, first_value}
use Rattle.table_fields.proofs.Opens.{open-fields}

below_or_not : (P : ℕ → Type 0) (n : ℕ) → ((k : ℕ) → k < n → P k) → ((k : ℕ) → n ≤ k → P k) → (k : ℕ) → P k
below_or_not P n below past k = go (ltb k n) refl
  where
    go : (t : Bool) → ltb k n ≡ t → P k
    go true e = below k (ltb-true k n e)
    go false e = past k (ltb-false k n e)

-- ---- the rows read back are the document's fields
fields-below : map (fields_in field_rows field_names) (up_from 0 20) ≡ map fields_of (up_from 0 20)
unfolding open-fields up_from flatten
fields-below = refl

rows-below : all (λ t. ltb t 20) (tables_in field_rows) ≡ true
unfolding open-fields all flatten
rows-below = refl

-- a number past the last file has none
pub no_fields : (t : ℕ) → 20 ≤ t → fields_of t ≡ []
unfolding fields_of tables
no_fields t h = get_or-eq_default tables [] h

pub fields_back : (t : ℕ) → fields_in field_rows field_names t ≡ fields_of t
fields_back =
    below_or_not (λ t. fields_in field_rows field_names t ≡ fields_of t) 20 (each (fields_in field_rows field_names) fields_of 20 fields-below)
    (λ t h. fields-past field_rows field_names 20 rows-below t h ∙ sym (no_fields t h))

-- the same as their count, from a file's part of the rows, and at one field
pub count-back : (t : ℕ) → field_count field_rows t ≡ length (fields_of t)
count-back t = sym (fields-in-length field_rows field_names t) ∙ ap length (fields_back t)

pub file-fields : (t : ℕ) → fields_from (rows_after field_rows (first_field field_rows t)) field_names (field_count field_rows t) 0 ≡ fields_of t
file-fields t = fields-of-run field_rows field_names t ∙ fields_back t

pub field_back : (d : Field) (t k : ℕ) → k < length (fields_of t) → field_at field_rows field_names (first_field field_rows t + k) ≡ get_or (fields_of t) k d
unfolding fields_in
field_back d t k h =
    sym (fields_at field_rows field_names d (field_count field_rows t) (first_field field_rows t) k (rw (count-back t) h))
    ∙ ap (λ l. get_or l k d) (fields_back t)

-- ---- the places read back are the document's values
values_back : ℕ → List (List ℕ)
values_back e = values_from value_places value_texts (length (values_of e)) (first_value e)

values-below : map values_back (up_from 0 11) ≡ map values_of (up_from 0 11)
unfolding open-fields up_from values_back flatten
values-below = refl

pub no-values : (e : ℕ) → 11 ≤ e → values_of e ≡ []
unfolding values_of enumerations
no-values e h = get_or-eq_default enumerations [] h

pub values-back : (e : ℕ) → values_from value_places value_texts (length (values_of e)) (first_value e) ≡ values_of e
unfolding values_back values_from listed
values-back =
    below_or_not (λ e. values_back e ≡ values_of e) 11 (each values_back values_of 11 values-below) (λ e h. rw (no-values e h))

pub value-back : (e k : ℕ) → k < length (values_of e) → value_text_at value_places value_texts (first_value e + k) ≡ get_or (values_of e) k []
value-back e k h =
    sym (values-at value_places value_texts (length (values_of e)) (first_value e) k h) ∙ ap (λ l. get_or l k []) (values-back e)

-- ---- tests that every table passes, and every field
module _ (test : List Field → Bool) (holds : all test tables ≡ true) (none : test [] ≡ true) where
  every-table : (t : ℕ) → test (fields_of t) ≡ true
  unfolding fields_of
  every-table = all-total test [] tables holds none

module _ (test : Field → Bool) (holds : all (all test) tables ≡ true) where
  every-field : (d : Field) (t k : ℕ) → k < length (fields_of t) → test (get_or (fields_of t) k d) ≡ true
  unfolding all
  every-field d t k h = all-at test d (fields_of t) (every-table (all test) holds refl t) k h

few_fields : List Field → Bool
few_fields fs = leb (length fs) 23

-- a file has at most 23 fields
pub few-fields : (t : ℕ) → length (fields_of t) ≤ 23
unfolding few_fields all open-fields
few-fields t = leb-true (length (fields_of t)) 23 (every-table few_fields refl refl t)

has_name : Field → Bool
has_name f = ltb 0 (length f.name)

-- every field has a name
pub has-name : (d : Field) (t k : ℕ) → k < length (fields_of t) → 0 < length (get_or (fields_of t) k d).name
unfolding has_name all open-fields
has-name d t k h = ltb-true 0 (length (get_or (fields_of t) k d).name) (every-field has_name refl d t k h)

has_type : Field → Bool
has_type f = leb f.type text

-- every field has one of the seven types
pub has-type : (d : Field) (t k : ℕ) → k < length (fields_of t) → (get_or (fields_of t) k d).type ≤ text
unfolding has_type all open-fields
has-type d t k h = leb-true (get_or (fields_of t) k d).type text (every-field has_type refl d t k h)

names_once : List Field → Bool
names_once fs = distinct (map (λ (f : Field). f.name) fs)

-- no file has two fields of one name
pub names-differ : (d : Field) (t i j : ℕ) → i < length (fields_of t) → j < length (fields_of t) → (get_or (fields_of t) i d).name ≡ (get_or (fields_of t) j d).name → i ≡ j
unfolding names_once all open-fields distinct among
names-differ d t i j hi hj e =
    distinct-at d.name (map (λ (f : Field). f.name) (fields_of t)) (every-table names_once refl refl t) i j
    (rw length-map hi) (rw length-map hj)
    (get_or-map (λ (f : Field). f.name) (fields_of t) i d ∙ e ∙ sym (get_or-map (λ (f : Field). f.name) (fields_of t) j d))
