-- For the code's sake alone: what its loops keep, and numbers as the code finds them in the lent tables. No statement of a
-- public function names what stands here.
use Rattle.std.specs.Prelude.{ℕ, zero, suc, ◌+◌, ◌*◌, ◌≤◌, ◌<◌, ◌≡◌, Bool, true, cond, List, length, get_or, leb, eqb}
use Rattle.parts.specs.Files.{File}
use Rattle.table_rows.specs.Rows.{cell_at}
use Rattle.table_file.specs.File.{Expected}
use Rattle.mark_numbers.specs.declared.Mark.{Mark}
use Rattle.mark_numbers.specs.Marks.{Marks, mark_in}
use Rattle.rule_shape.specs.declared.Rule.{Rule}
use Rattle.found_marks.specs.Found.{count_in}
use Rattle.gate_marks.specs.declared.Scope.{Scope}
use Rattle.gate_marks.specs.Work.{zeros, width_of, cells_in, read_of}
use Rattle.gate_marks.specs.Marks.{file_mark}
use Rattle.gate_marks.specs.Again.{touched}

-- how many cells a file has, and how many all files before it have
unfoldable pub room_in : List ℕ → List ℕ → ℕ → ℕ
room_in forms fields k =
    cond (leb (count_in forms fields k) 64)
    (cond (eqb (cell_at forms 2 k 0) 1) (2 * count_in forms fields k) (8192 * count_in forms fields k))
    0

unfoldable pub rooms_in : List ℕ → List ℕ → ℕ → ℕ
rooms_in forms fields zero = 0
rooms_in forms fields (suc k) = rooms_in forms fields k + room_in forms fields k

-- where the cells of the first n files start is in a list, and behind them where the last ones end
pub record Starts (start : ℕ → ℕ) (n : ℕ) (starts : List ℕ) : Type 0 where
  pub at : (k : ℕ) → k ≤ n → get_or starts k 0 ≡ start k

-- cells before a file is read into them
unfoldable pub start_cells : Bool → List ℕ → List ℕ
start_cells cleared cells = cond cleared (zeros (length cells)) cells

-- the needed ones of the first n files have been read: the cells of their records, their own marks, how many records they have
pub record ReadTo (n : ℕ) (expected : ℕ → Expected) (needed : ℕ → Bool) (files : ℕ → File) (work : List ℕ) (own : Marks) (records : List ℕ) : Type 0 where
  pub cells_at : (f : ℕ) → f < n → needed f ≡ true → (i : ℕ) → i < (read_of (expected f) (files f)).read.records * width_of (expected f).form → get_or (cells_in expected work f) i 0 ≡ get_or (read_of (expected f) (files f)).cells i 0
  pub mark-at : (f : ℕ) → f < n → needed f ≡ true → mark_in own f ≡ file_mark (expected f) (files f)
  pub records-at : (f : ℕ) → f < n → needed f ≡ true → get_or records f 0 ≡ (read_of (expected f) (files f)).read.records

-- the marks put over those that were handed in
unfoldable pub put_mark : ℕ → (ℕ → Rule) → Scope → (ℕ → Mark) → Marks → ℕ → Mark
put_mark n rule scope found handed m = cond (touched n rule scope m) (found m) (mark_in handed m)
