-- For the code's sake alone: the next file with bytes from a place on.
use Rattle.std.specs.Prelude.{ℕ, zero, suc, ◌+◌, cond, ◌&&◌, List, get_or, ltb, leb}
use Rattle.drawer_text.specs.declared.Stretch.{Stretch}

abbrev pub stretch : ℕ → ℕ → Stretch
stretch start end = record { start = start; end = end }

-- l bytes from o on, if they start at c or later and before the best ones so far
unfoldable pub nearer_to : ℕ → Stretch → ℕ → ℕ → Stretch
nearer_to c best o l = cond (ltb 0 l && (leb c o && ltb o best.start)) (stretch o (o + l)) best

-- of the first i files, the one that starts first; a drawer's end where none does
unfoldable pub file_ahead : List ℕ → List ℕ → ℕ → ℕ → ℕ → Stretch
file_ahead offs lens c room zero = stretch room room
file_ahead offs lens c room (suc i) = nearer_to c (file_ahead offs lens c room i) (get_or offs i 0) (get_or lens i 0)
