-- For the code's sake alone: a file's table and the kinds of the files' marks, as the code finds them in lists. No statement
-- of a public function names what stands here.
use Rattle.std.specs.Prelude.{ℕ, ◌*◌, cond, List, [], get_or, ltb}
use Rattle.parts.specs.Files.{File, bytes_of}
use Rattle.rule_cells.specs.Cells.{Table, table}
use Rattle.found_marks.specs.Found.{count_in}
use Rattle.gate_marks.specs.Gate.{expected_in}
use Rattle.gate_marks.specs.Work.{cells_in}

abbrev pub kinds_in : List ℕ → ℕ → ℕ
kinds_in kinds k = get_or kinds k 0

-- no rule looks at how many records there are to show one of them
unfoldable pub table_found : List ℕ → List ℕ → (ℕ → File) → List ℕ → ℕ → Table
table_found forms fields files work k =
    table (bytes_of (files k)) (cond (ltb k 32) (cells_in (expected_in forms fields [] []) work k) []) (2 * count_in forms fields k) 0
