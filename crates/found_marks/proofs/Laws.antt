-- A mark as the code finds it in lists in which files were read.
-- Assumes nothing.
use Prim.Native.Nat.{ℕ, ◌+◌, ◌-◌, ◌*◌, ◌/◌, ◌≤◌}
use mathlib.Core.Path.{◌≡◌, refl}
use mathlib.Core.Bool.{Bool, true, false, ◌&&◌}
use mathlib.Core.List.{List}
use native.Mathlib.Omega.{arith}
use borrow.Author.Tests.{le-ltb}
use lib.ListN.{length, get_or, take, drop, length-drop}
use lib.Dec.{ltb, eqb}
use Rattle.json_bytes.proofs.Laws.{by-test, leading-bound}
use Rattle.parts.specs.Part.{part_of}
use Rattle.parts.specs.Files.{File, bytes_of}
use Rattle.mark_numbers.specs.declared.Mark.{Mark}
use Rattle.mark_numbers.specs.Marks.{Marks, not_judged}
use Rattle.table_rows.specs.Rows.{cell_at, tables_in, first_field, field_count}
use Rattle.table_rows.proofs.Laws.{tables-length}
use Rattle.rule_cells.specs.Cells.{Table, table}
use Rattle.rule_shape.specs.declared.Rule.{Rule}
use Rattle.rule_shape.specs.Rule.{first_file_of, second_file_of}
use Rattle.rules.specs.declared.Break.{Break}
use Rattle.rules.specs.Judge.{rule_break, is_judged, mark_of}
use Rattle.found_marks.specs.Found.{count_in, table_in, rule_mark_in, found_mark}

pub and-false : (t : Bool) → (t && false) ≡ false
and-false true = refl
and-false false = refl

-- ---- how many fields a file has, by the lent tables
pub count-within : (forms fields : List ℕ) (k : ℕ) → count_in forms fields k ≤ length fields / 5
unfolding count_in field_count
count-within forms fields k =
    by-test (λ n. n ≤ length fields / 5) (ltb 1 (cell_at forms 2 k 0)) _ _ (λ _. omega arith)
    (λ _. omega (arith, leading-bound (λ t. eqb t k) (drop (first_field fields k) (tables_in fields)), length-drop (first_field fields k) (tables_in fields), tables-length fields))

-- ---- the mark of a rule, as the code finds it
module _ (values texts : List ℕ) (rule : Rule) (files : ℕ → File) (count : ℕ → ℕ) (starts work records kinds : List ℕ) (first second : ℕ) (first-is : first ≡ first_file_of rule) (second_is : second ≡ second_file_of rule)
    (kind other : ℕ) (kind-is : kind ≡ get_or kinds first 0) (other-is : other ≡ get_or kinds second 0) (judged : Bool) (judged-is : judged ≡ is_judged kind other) where
  judged-by : (t : Bool) → judged ≡ t → is_judged (get_or kinds (first_file_of rule) 0) (get_or kinds (second_file_of rule) 0) ≡ t
  judged-by t e = rw (← first-is, ← second_is, ← kind-is, ← other-is, ← judged-is) e

  pub rule-unjudged : judged ≡ false → not_judged ≡ rule_mark_in values texts (table_in files count starts work records) kinds rule
  unfolding rule_mark_in mark_of
  rule-unjudged e = rw (judged-by false e)

  pub rule-judged : judged ≡ true → (s u : List ℕ) → s ≡ bytes_of (files first) → u ≡ bytes_of (files second) → (width «u-width» : ℕ) → width ≡ 2 * count first → «u-width» ≡ 2 * count second
      → (n «u-n» : ℕ) → n ≡ get_or records first 0 → «u-n» ≡ get_or records second 0 → (all «u-all» : List ℕ)
      → all ≡ part_of work (get_or starts first 0) (get_or starts (first + 1) 0) → «u-all» ≡ part_of work (get_or starts second 0) (get_or starts (second + 1) 0)
      → (cells «u-cells» : List ℕ) → cells ≡ take (n * width) all → «u-cells» ≡ take («u-n» * «u-width») «u-all»
      → (b : Break) → b ≡ rule_break values texts rule (table s cells width n) (table u «u-cells» «u-width» «u-n»)
      → (r : Mark) → r ≡ mark_of true b → r ≡ rule_mark_in values texts (table_in files count starts work records) kinds rule
  unfolding rule_mark_in table_in
  rule-judged e s u s-is u-is width «u-width» width_is «u-width-is» n «u-n» n-is «u-n-is» all «u-all» all_are «u-all-are» cells «u-cells» cells_are «u-cells-are» b b-is r r-is =
      rw (r-is, b-is, s-is, u-is, cells_are, «u-cells-are», all_are, «u-all-are», width_is, «u-width-is», n-is, «u-n-is», first-is, second_is, judged-by true e)

-- and that of any mark which is no file's own
module _ (n : ℕ) (rule : ℕ → Rule) (values texts : List ℕ) (tables : ℕ → Table) (own : Marks) (m : ℕ) (l : n ≤ m) where
  pub second-missing : (second : ℕ) → second ≡ second_file_of (rule (m - n)) → n ≤ second → not_judged ≡ found_mark n rule values texts tables own m
  unfolding found_mark
  second-missing second is h = rw (le-ltb m n l, ← is, le-ltb second n h, and-false (ltb (first_file_of (rule (m - n))) n))

  module _ (first : ℕ) (first-is : first ≡ first_file_of (rule (m - n))) where
    pub first-missing : n ≤ first → not_judged ≡ found_mark n rule values texts tables own m
    unfolding found_mark
    first-missing h = rw (le-ltb m n l, ← first-is, le-ltb first n h)
