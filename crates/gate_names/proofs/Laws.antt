-- The name of a field, read from lent rows of fields.
-- Assumes nothing.
use Prim.Native.Nat.{ℕ, ◌≤◌, ◌<◌}
use mathlib.Core.Path.{◌≡◌, sym, ap, ◌∙◌}
use mathlib.Core.List.{List}
use native.Mathlib.Nat.{zero-add}
use native.Mathlib.Omega.{arith}
use lib.ListN.{length, get_or, get_or-eq_default}
use Rattle.parts.specs.Part.{part_of}
use Rattle.output.specs.Output.{Output, put}
use Rattle.table_rows.specs.Rows.{Field, field_at, field_name_at, name_start, name_end, rows_after, first_field, field_count, fields_in}
use Rattle.table_rows.proofs.Laws.{fields_at, fields-of-run, fields-in-length}
use Rattle.table_fields.specs.Fields.{fields_of}
use Rattle.table_fields.specs.Flat.{field_rows, field_names}
use Rattle.table_fields.proofs.Facts.{fields_back}
use Rattle.contract_fields.specs.Fields.{contract_fields_of, contract_field_rows, contract_field_names}
use Rattle.contract_fields.proofs.Facts.{fields_back as contract-back}
use Rattle.gate_names.specs.Names.{no_field, name_among, name_in_rows}

module _ (rows names : List ℕ) (file field : ℕ) (o : Output) where
  pub name-none : {n : ℕ} → n ≡ field_count rows file → n ≤ field → o ≡ put o (name_in_rows rows names file field)
  unfolding name_in_rows name_among put
  name-none e h =
      let past : length (fields_in rows names file) ≤ field = omega (arith, fields-in-length rows names file) in
      ap (λ (f : Field). put o f.name) (sym (get_or-eq_default (fields_in rows names file) no_field past))

  in-its-row : field < field_count rows file → field_name_at (rows_after rows (first_field rows file)) names field ≡ name_in_rows rows names file field
  unfolding name_in_rows name_among field_at
  in-its-row l =
      let own = rows_after rows (first_field rows file) in
      ap (λ k. field_name_at own names k) (sym (zero-add field))
      ∙ ap (λ (f : Field). f.name) (sym (fields_at own names no_field (field_count rows file) 0 field l) ∙ ap (λ l. get_or l field no_field) (fields-of-run rows names file))

  pub name-put : {own r : List ℕ} {n first a b : ℕ} → n ≡ field_count rows file → field < n → first ≡ first_field rows file → own ≡ rows_after rows first → a ≡ name_start own field → b ≡ name_end own field → r ≡ part_of names a b → {p : Output} → p ≡ put o r → p ≡ put o (name_in_rows rows names file field)
  unfolding field_name_at
  name-put e l g q j k m h =
      let few : field < field_count rows file = omega (arith, e) in
      h ∙ ap (put o) (m ∙ rw (j, k, q, g) (in-its-row few))

-- the rows of a document's fields give these
pub fields-put : (given : List ℕ) (texts : List ℕ) (fields : ℕ → List Field) → ((t : ℕ) → fields_in given texts t ≡ fields t) → (file field : ℕ) (o : Output) {rows names : List ℕ} {p : Output} → rows ≡ given → names ≡ texts → p ≡ put o (name_in_rows rows names file field) → p ≡ put o (name_among (fields file) field)
unfolding name_in_rows
fields-put given texts fields back file field o e f h = h ∙ rw (e, f, back file)

pub schedule-put : (file field : ℕ) (o : Output) {rows names : List ℕ} {p : Output} → rows ≡ field_rows → names ≡ field_names → p ≡ put o (name_in_rows rows names file field) → p ≡ put o (name_among (fields_of file) field)
schedule-put = fields-put field_rows field_names fields_of fields_back

pub contract-put : (file field : ℕ) (o : Output) {rows names : List ℕ} {p : Output} → rows ≡ contract_field_rows → names ≡ contract_field_names → p ≡ put o (name_in_rows rows names file field) → p ≡ put o (name_among (contract_fields_of file) field)
contract-put = fields-put contract_field_rows contract_field_names contract_fields_of contract-back
