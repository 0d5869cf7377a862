-- Which kinds a mark can be, for any gate: those of its files, 1 where a rule is broken, and 2 where it is not judged. So 99, which
-- a reader gives where its cells have no room, is no mark.
-- Assumes nothing.
use Prim.Native.Nat.{ℕ, ◌*◌, ◌^◌, ◌≤◌, ◌<◌}
use mathlib.Core.Path.{◌≡◌, refl}
use mathlib.Core.Bool.{Bool, false, ◌&&◌, false≢true}
use mathlib.Core.List.{List, [], ◌∷◌}
use borrow.Author.Tests.{ltb-true, le-leb}
use lib.ListN.{length}
use lib.Dec.{ltb, eqb}
use Rattle.json_bytes.proofs.Laws.{by-test, either}
use Rattle.json_bytes.proofs.FaultKinds.{In, wider, in_right}
use Rattle.parts.specs.Files.{File, Left, Given, bytes_of}
use Rattle.mark_numbers.specs.declared.Mark.{Mark}
use Rattle.table_rows.specs.Rows.{Field}
use Rattle.table_file.specs.File.{Form, Fixed, Single, Records, Expected, omitted, read_as, file_of}
use Rattle.table_file.proofs.FaultKinds.{table_kinds, table-kinds, file_kinds, count_of, cells_of, own_room, own-kinds}
use Rattle.table_file.specs.Table.{read_table}
use Rattle.rule_shape.specs.Rule.{first_file_of, second_file_of}
use Rattle.rules.specs.declared.Break.{Break}
use Rattle.rules.specs.Judge.{mark_of}
use Rattle.gate_marks.specs.Gate.{Gate, rule_of_mark}
use Rattle.gate_marks.specs.Work.{zeros, room_for, room_of, read_of}
use Rattle.gate_marks.specs.Marks.{mark_read, file_mark, rule_mark, rule_mark_at, mark_at}
use Rattle.gate_marks.proofs.Rooms.{length-zeros}

abbrev pub mark_kinds : List ℕ
mark_kinds = 1 ∷ 2 ∷ file_kinds

-- no file is longer than a place can say, and none has more fields than a reader takes
pub record Small (g : Gate) (files : ℕ → File) : Type 0 where
  pub bytes : (k : ℕ) → k < g.files → length (bytes_of (files k)) < 2 ^ 32
  pub fields : (k : ℕ) → k < g.files → count_of (g.expected k).form ≤ 64

-- the cells of a file are as many as its reader asks for
own-cells : (form : Form) → count_of form ≤ 64 → length (zeros (room_of form)) ≡ cells_of form
unfolding room_of room_for
own-cells (Fixed text) few = length-zeros 0
own-cells (Single fields) few = rw (le-leb (length fields) 64 few) (length-zeros (1 * (2 * length fields)))
own-cells (Records fields) few = rw (le-leb (length fields) 64 few) (length-zeros (4096 * (2 * length fields)))

abbrev OfMark : Mark → Type 0
OfMark mark = In mark_kinds mark.kind

rule-kinds : (judged : Bool) (b : Break) → OfMark (mark_of judged b)
unfolding mark_of
rule-kinds judged b = either OfMark judged _ _ (either OfMark (eqb b.«record» 0) _ _ refl refl) refl

-- ---- where every file is an array that may be left out: those of a table, without 21 and 22
abbrev pub array_kinds : List ℕ
array_kinds = 1 ∷ 2 ∷ table_kinds

abbrev pub free_array : List Field → Expected
free_array fields = record { form = Records fields; required = false }

abbrev OfArray : Mark → Type 0
OfArray mark = In array_kinds mark.kind

array-kinds : (fields : List Field) (f : File) → length (bytes_of f) < 2 ^ 32 → length fields ≤ 64 → OfArray (file_mark (free_array fields) f)
unfolding file_mark mark_read read_of file_of omitted read_as bytes_of
array-kinds fields Left small few = refl
array-kinds fields (Given s) small few =
    in_right (1 ∷ 2 ∷ []) table_kinds (read_table false fields s (zeros (room_of (Records fields)))).read.kind
    (table-kinds fields s (zeros (room_of (Records fields))) false (own_room (Records fields) s (zeros (room_of (Records fields))) small few (own-cells (Records fields) few)))

array-rule-kinds : (judged : Bool) (b : Break) → OfArray (mark_of judged b)
unfolding mark_of
array-rule-kinds judged b = either OfArray judged _ _ (either OfArray (eqb b.«record» 0) _ _ refl refl) refl

module _ (g : Gate) (files : ℕ → File) (small : Small g files) where
  pub own-mark-kinds : (k : ℕ) → k < g.files → In file_kinds (file_mark (g.expected k) (files k)).kind
  unfolding file_mark mark_read read_of
  own-mark-kinds k l =
      own-kinds (g.expected k) (files k) (zeros (room_of (g.expected k).form)) (small.bytes k l) (small.fields k l) (own-cells (g.expected k).form (small.fields k l))

  pub mark-kinds : (m : ℕ) → In mark_kinds (mark_at g m files).kind
  unfolding mark_at rule_mark_at rule_mark
  mark-kinds m =
      by-test OfMark (ltb m g.files) _ _ (λ e. wider file_kinds mark_kinds refl (file_mark (g.expected m) (files m)).kind (own-mark-kinds m (ltb-true m g.files e)))
      (λ e. either OfMark (ltb (first_file_of (rule_of_mark g m)) g.files && ltb (second_file_of (rule_of_mark g m)) g.files) _ _ (rule-kinds _ _) refl)

  pub never-99 : (m : ℕ) → (mark_at g m files).kind ≡ 99 → ⊥
  never-99 m e = false≢true (rw e at (mark-kinds m))

  pub array-mark-kinds : ((k : ℕ) → k < g.files → (fields : List Field) × (g.expected k ≡ free_array fields)) → (m : ℕ) → OfArray (mark_at g m files)
  unfolding mark_at rule_mark_at rule_mark
  array-mark-kinds free m =
      by-test OfArray (ltb m g.files) _ _
      (λ e. own (free m (ltb-true m g.files e)).0 (free m (ltb-true m g.files e)).1 (small.bytes m (ltb-true m g.files e)) (small.fields m (ltb-true m g.files e)))
      (λ e. either OfArray (ltb (first_file_of (rule_of_mark g m)) g.files && ltb (second_file_of (rule_of_mark g m)) g.files) _ _ (array-rule-kinds _ _) refl)
    where
      own : (fields : List Field) → g.expected m ≡ free_array fields → length (bytes_of (files m)) < 2 ^ 32 → count_of (g.expected m).form ≤ 64 → OfArray (file_mark (g.expected m) (files m))
      own fields e l few = rw e (array-kinds fields (files m) l (rw e at few))
