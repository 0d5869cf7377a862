-- What is read with the lent rows of a file's own fields is the table as document 002 has it.
-- Assumes nothing.
use Prim.Native.Nat.{ℕ}
use mathlib.Core.Path.{◌≡◌, refl, ap, ◌∙◌}
use mathlib.Core.Bool.{Bool, true, false, cond, not}
use mathlib.Core.List.{List, []}
use Rattle.parts.specs.Files.{Left, Given, new_file, bytes_of}
use Rattle.table_rows.specs.Rows.{fields_from, rows_after, first_field, field_count}
use Rattle.table_fields.specs.Flat.{field_rows, field_names}
use Rattle.table_fields.proofs.Facts.{file-fields}
use Rattle.table_file.specs.declared.FileRead.{FileRead}
use Rattle.table_file.specs.File.{form_from, expected_from, file_of}
use Rattle.bundle_layout.specs.Bundle.{is_omitted, part_at, file_at}
use Rattle.gate_marks.specs.Work.{zeros}
use Rattle.table_again.specs.Again.{as_records, file_read_again}

-- a file by whether it is omitted and its bytes
file-by : (s : List ℕ) (k : ℕ) → new_file (not (is_omitted s k)) (bytes_of (file_at s k)) ≡ file_at s k
unfolding new_file bytes_of file_at
file-by s k = go (is_omitted s k)
  where
    go : (t : Bool) → new_file (not t) (bytes_of (cond t Left (Given (part_at s k)))) ≡ cond t Left (Given (part_at s k))
    go true = refl
    go false = refl

module _ (s : List ℕ) (k room : ℕ) {cells fields names own part : List ℕ} {first count : ℕ} {omitted : Bool}
    (cleared : cells ≡ zeros room) (rows_are : fields ≡ field_rows) (names-are : names ≡ field_names) (first-is : first ≡ first_field fields k)
    (own_is : own ≡ rows_after fields first) (count-is : count ≡ field_count fields k) (omitted-is : omitted ≡ is_omitted s k) (part-is : part ≡ bytes_of (file_at s k)) where
  same : file_of (expected_from 0 false [] (fields_from own names count 0)) (new_file (not omitted) part) cells ≡ file_read_again s k room
  unfolding file_read_again as_records form_from
  same = rw (own_is, first-is, count-is, rows_are, names-are, file-fields k, omitted-is, part-is, file-by s k, cleared)

  pub read_again : {r : FileRead} {last : List ℕ} → (r ≡ (file_of (expected_from 0 false [] (fields_from own names count 0)) (new_file (not omitted) part) cells).read) × (last ≡ (file_of (expected_from 0 false [] (fields_from own names count 0)) (new_file (not omitted) part) cells).cells)
      → (r ≡ (file_read_again s k room).read) × (last ≡ (file_read_again s k room).cells)
  read_again (e, h) = (e ∙ ap (λ t. t.read) same, h ∙ ap (λ t. t.cells) same)
