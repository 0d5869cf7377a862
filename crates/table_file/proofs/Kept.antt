-- What a file's reading keeps, whatever the file and the cells: the cells stay as many as they were, the records are
-- 4,096 at most, and a file with a fault has none. What a caller needs who walks the records that were read. And the mark's
-- companion is 0 where its kind names no record; where it names one, table_meaning's `companion-record` says which.
-- Assumes nothing.
use Prim.Native.Nat.{ℕ, ◌≤◌}
use mathlib.Core.Path.{◌≡◌, refl}
use mathlib.Core.Bool.{Bool, true, false}
use mathlib.Core.List.{List}
use native.Mathlib.Omega.{arith}
use lib.ListN.{length}
use lib.Dec.{ltb}
use Rattle.json_bytes.specs.Reads.{within, spaces_end}
use Rattle.json_bytes.proofs.Laws.{by-test, either}
use Rattle.parts.specs.Files.{File, Left, Given}
use Rattle.json_same.specs.Same.{same_list}
use Rattle.table_rows.specs.Rows.{Field}
use Rattle.table_file.specs.declared.FileRead.{FileRead}
use Rattle.table_file.specs.Table.{names_record, companion_of, file_holds, fault, TableRead, table_read, end_of_file, read_table}
use Rattle.table_file.specs.File.{Form, Fixed, Single, Records, Expected, omitted, fixed_read, read_as, file_of}
use Rattle.table_file.proofs.Elements.{table-holds}

-- ---- a mark
record Counted (f : FileRead) : Type 0 where
  few : f.records ≤ 4096
  none : (f.kind ≡ 0 → ⊥) → f.records ≡ 0
  alone : names_record f.kind ≡ false → f.companion ≡ 0

counted-fault : (kind place r : ℕ) → Counted (fault kind place r)
unfolding companion_of
counted-fault kind place r = record { few = omega arith; none = λ _. refl; alone = λ e. rw e }

counted-holds : (records : ℕ) → records ≤ 4096 → Counted (file_holds records)
counted-holds records l = record { few = l; none = λ e. absurd (e refl); alone = λ _. refl }

counted-end : (s : List ℕ) (at records : ℕ) → records ≤ 4096 → Counted (end_of_file s at records)
unfolding end_of_file
counted-end s at records l =
    by-test Counted (ltb (spaces_end s at) (length s)) _ _ (λ _. counted-fault 11 (spaces_end s at) 0) (λ _. counted-holds records l)

-- ---- a table, read with these cells before
record Kept (cells : List ℕ) (f : TableRead) : Type 0 where
  same : length f.cells ≡ length cells
  counted : Counted f.read

kept_table : (fields : List Field) (s : List ℕ) (single : Bool) (cells : List ℕ) → Kept cells (read_table single fields s cells)
kept_table fields s single cells =
    table-holds 4096 fields s cells (λ _. Unit {0}) (Kept cells)
    (record {
      of-record = λ at now r e l. tt;
      of_other = λ at. tt;
      of-many = λ at. tt;
      of-stop = λ at. tt;
      of-fault = λ then kind place r e q. record { same = e; counted = counted-fault kind place r };
      of_end = λ then at records e l. record { same = e; counted = counted-end s at records l };
    })
    single (either (λ (n : ℕ). n ≤ 4096) single 1 4096 (omega arith) (omega arith))

-- ---- a file
module _ (cells : List ℕ) where
  kept-omitted : (required : Bool) → Kept cells (table_read cells (omitted required))
  unfolding omitted
  kept-omitted required =
      record { same = refl; counted = by-test Counted required _ _ (λ _. counted-fault 21 0 0) (λ _. counted-holds 0 (omega arith)) }

  kept-form : (form : Form) (s : List ℕ) → Kept cells (read_as form s cells)
  unfolding read_as fixed_read
  kept-form (Fixed text) s =
      record { same = refl; counted = by-test Counted (same_list s text) _ _ (λ _. counted-holds 0 (omega arith)) (λ _. counted-fault 22 0 0) }
  kept-form (Single fields) s = kept_table fields s true cells
  kept-form (Records fields) s = kept_table fields s false cells

  kept-file : (e : Expected) (f : File) → Kept cells (file_of e f cells)
  unfolding file_of
  kept-file e Left = kept-omitted e.required
  kept-file e (Given s) = kept-form e.form s

module _ (e : Expected) (f : File) (cells : List ℕ) where
  pub file-length : length (file_of e f cells).cells ≡ length cells
  file-length = (kept-file cells e f).same

  pub file-records : (file_of e f cells).read.records ≤ 4096
  file-records = (kept-file cells e f).counted.few

  pub fault-records : ((file_of e f cells).read.kind ≡ 0 → ⊥) → (file_of e f cells).read.records ≡ 0
  fault-records = (kept-file cells e f).counted.none

  pub companion-none : names_record (file_of e f cells).read.kind ≡ false → (file_of e f cells).read.companion ≡ 0
  companion-none = (kept-file cells e f).counted.alone

  pub companion-holds : (file_of e f cells).read.kind ≡ 0 → (file_of e f cells).read.companion ≡ 0
  unfolding names_record within
  companion-holds z = companion-none (rw z)
