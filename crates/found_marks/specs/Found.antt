-- For the code's sake alone: a mark from lists in which files were read, as the code finds it. What a mark is says the
-- gate, over the files themselves.
use Rattle.std.specs.Prelude.{ℕ, ◌+◌, ◌-◌, ◌*◌, cond, ◌&&◌, List, get_or, take, ltb}
use Rattle.parts.specs.Part.{part_of}
use Rattle.parts.specs.Files.{File, bytes_of}
use Rattle.mark_numbers.specs.declared.Mark.{Mark}
use Rattle.mark_numbers.specs.Marks.{Marks, mark_in, not_judged}
use Rattle.table_rows.specs.Rows.{cell_at, field_count}
use Rattle.rule_cells.specs.Cells.{Table, table}
use Rattle.rule_shape.specs.declared.Rule.{Rule}
use Rattle.rule_shape.specs.Rule.{first_file_of, second_file_of}
use Rattle.rules.specs.Judge.{rule_break, is_judged, mark_of}

-- how many fields a file has, a fixed text none
unfoldable pub count_in : List ℕ → List ℕ → ℕ → ℕ
count_in forms fields k = cond (ltb 1 (cell_at forms 2 k 0)) 0 (field_count fields k)

-- a file's table from what was read: its cells stand in the list from one start up to the next, those of its records first, and what stands
-- behind these is not handed on
unfoldable pub table_in : (ℕ → File) → (ℕ → ℕ) → List ℕ → List ℕ → List ℕ → ℕ → Table
table_in files count starts work records k =
    table (bytes_of (files k)) (take (get_or records k 0 * (2 * count k)) (part_of work (get_or starts k 0) (get_or starts (k + 1) 0))) (2 * count k) (get_or records k 0)

-- the mark of a rule from such tables and the kinds of the files' marks
unfoldable pub rule_mark_in : List ℕ → List ℕ → (ℕ → Table) → List ℕ → Rule → Mark
rule_mark_in values texts tables kinds r =
    mark_of (is_judged (get_or kinds (first_file_of r) 0) (get_or kinds (second_file_of r) 0)) (rule_break values texts r (tables (first_file_of r)) (tables (second_file_of r)))

-- mark m, of n files' marks and those of the rules
unfoldable pub found_mark : ℕ → (ℕ → Rule) → List ℕ → List ℕ → (ℕ → Table) → Marks → ℕ → Mark
found_mark n rule values texts tables own m =
    cond (ltb m n) (mark_in own m)
    (cond (ltb (first_file_of (rule (m - n))) n && ltb (second_file_of (rule (m - n))) n) (rule_mark_in values texts tables own.kinds (rule (m - n))) not_judged)
