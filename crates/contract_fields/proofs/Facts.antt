-- What holds of the tables of document 000, computed once over all of them.
-- Assumes nothing.
use Prim.Native.Nat.{ℕ, ◌≤◌, ◌<◌}
use mathlib.Core.Path.{◌≡◌, refl, sym, ap, ◌∙◌}
use mathlib.Core.Bool.{Bool, true, false}
use mathlib.Core.List.{List, [], ◌∷◌, map, flatten}
use borrow.Author.Tests.{leb-true, ltb-true, ltb-false}
use lib.ListN.{length, get_or, length-map, get_or-map, get_or-eq_default}
use lib.Dec.{leb, ltb}
use Rattle.table_rows.specs.Rows.{Field, fields_in, field_count, tables_in}
use Rattle.table_rows.specs.Types.{text}
use Rattle.table_rows.proofs.Laws.{up_from, each, all, all-at, all-total, distinct, distinct-at, among, fields-past, fields-in-length}
use Rattle.contract_fields.specs.Fields.{contract_tables, contract_fields_of, contract_field_rows, contract_field_names}
use Rattle.contract_fields.proofs.Opens.{open-contract-fields}

-- ---- "23 fields": two, four, five and twelve
pub field-counts : map (λ (fs : List Field). length fs) contract_tables ≡ 2 ∷ 4 ∷ 5 ∷ 12 ∷ []
unfolding open-contract-fields
field-counts = refl

-- ---- the rows read back are the document's fields
fields-below : map (fields_in contract_field_rows contract_field_names) (up_from 0 4) ≡ map contract_fields_of (up_from 0 4)
unfolding open-contract-fields up_from flatten
fields-below = refl

rows-below : all (λ t. ltb t 4) (tables_in contract_field_rows) ≡ true
unfolding open-contract-fields all flatten
rows-below = refl

-- a number past the last file has none
pub no_fields : (t : ℕ) → 4 ≤ t → contract_fields_of t ≡ []
unfolding contract_fields_of contract_tables
no_fields t h = get_or-eq_default contract_tables [] h

pub fields_back : (t : ℕ) → fields_in contract_field_rows contract_field_names t ≡ contract_fields_of t
fields_back t = go (ltb t 4) refl
  where
    go : (b : Bool) → ltb t 4 ≡ b → fields_in contract_field_rows contract_field_names t ≡ contract_fields_of t
    go true e = each (fields_in contract_field_rows contract_field_names) contract_fields_of 4 fields-below t (ltb-true t 4 e)
    go false e = fields-past contract_field_rows contract_field_names 4 rows-below t (ltb-false t 4 e) ∙ sym (no_fields t (ltb-false t 4 e))

-- the same as their count
pub count-back : (t : ℕ) → field_count contract_field_rows t ≡ length (contract_fields_of t)
count-back t = sym (fields-in-length contract_field_rows contract_field_names t) ∙ ap length (fields_back t)

-- ---- tests that every table passes, and every field
module _ (test : List Field → Bool) (holds : all test contract_tables ≡ true) (none : test [] ≡ true) where
  every-table : (t : ℕ) → test (contract_fields_of t) ≡ true
  unfolding contract_fields_of
  every-table = all-total test [] contract_tables holds none

module _ (test : Field → Bool) (holds : all (all test) contract_tables ≡ true) where
  every-field : (d : Field) (t k : ℕ) → k < length (contract_fields_of t) → test (get_or (contract_fields_of t) k d) ≡ true
  unfolding all
  every-field d t k h = all-at test d (contract_fields_of t) (every-table (all test) holds refl t) k h

few_fields : List Field → Bool
few_fields fs = leb (length fs) 12

-- a file has at most 12 fields
pub few-fields : (t : ℕ) → length (contract_fields_of t) ≤ 12
unfolding few_fields all open-contract-fields
few-fields t = leb-true (length (contract_fields_of t)) 12 (every-table few_fields refl refl t)

has_name : Field → Bool
has_name f = ltb 0 (length f.name)

-- every field has a name
pub has-name : (d : Field) (t k : ℕ) → k < length (contract_fields_of t) → 0 < length (get_or (contract_fields_of t) k d).name
unfolding has_name all open-contract-fields
has-name d t k h = ltb-true 0 (length (get_or (contract_fields_of t) k d).name) (every-field has_name refl d t k h)

has_type : Field → Bool
has_type f = leb f.type text

-- every field has one of the seven types
pub has-type : (d : Field) (t k : ℕ) → k < length (contract_fields_of t) → (get_or (contract_fields_of t) k d).type ≤ text
unfolding has_type all open-contract-fields
has-type d t k h = leb-true (get_or (contract_fields_of t) k d).type text (every-field has_type refl d t k h)

names_once : List Field → Bool
names_once fs = distinct (map (λ (f : Field). f.name) fs)

-- no file has two fields of one name
pub names-differ : (d : Field) (t i j : ℕ) → i < length (contract_fields_of t) → j < length (contract_fields_of t) → (get_or (contract_fields_of t) i d).name ≡ (get_or (contract_fields_of t) j d).name → i ≡ j
unfolding names_once all open-contract-fields distinct among
names-differ d t i j hi hj e =
    distinct-at d.name (map (λ (f : Field). f.name) (contract_fields_of t)) (every-table names_once refl refl t) i j
    (rw length-map hi) (rw length-map hj)
    (get_or-map (λ (f : Field). f.name) (contract_fields_of t) i d ∙ e ∙ sym (get_or-map (λ (f : Field). f.name) (contract_fields_of t) j d))
