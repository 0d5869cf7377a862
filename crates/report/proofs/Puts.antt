-- The texts of the report put into an output one behind the other.
-- Assumes nothing.
use Prim.Native.Nat.{ℕ, ◌+◌}
use mathlib.Core.Path.{◌≡◌, refl}
use borrow.Author.Tests.{eq-eqb}
use lib.ListN.{length}
use Rattle.json_bytes.specs.Ascii.{codes}
use Rattle.bundle_bytes.specs.Pieces.{joined}
use Rattle.bundle_bytes.proofs.Laws.{joined-next}
use Rattle.output.specs.Output.{Output, put}
use Rattle.output.proofs.Puts.{put_then}
use Rattle.mark_numbers.specs.Marks.{Marks, mark_in}
use Rattle.mark_numbers.specs.declared.Mark.{Mark}
use Rattle.report.specs.Report.{counted, line_of, line_in, lines_up_to, last_line, board_text}

-- ---- lines
module _ (o : Output) (m : ℕ) (mark : Mark) where
  pub line-none : mark.kind ≡ 0 → o ≡ put o (line_of m mark)
  unfolding line_of put
  line-none z = rw (eq-eqb mark.kind 0 z)

-- the lines of the marks, one after the other
module _ (marks : Marks) (o : Output) where
  pub lines_start : o ≡ put o (lines_up_to marks 0)
  unfolding lines_up_to joined put
  lines_start = refl

  pub lines_next : (m : ℕ) {x : Mark} {p q : Output} → x ≡ mark_in marks m → p ≡ put o (lines_up_to marks m) → q ≡ put p (line_of m x) → q ≡ put o (lines_up_to marks (m + 1))
  unfolding lines_up_to line_in
  lines_next m is e h = rw (joined-next (line_in marks) m) (put_then o (lines_up_to marks m) (line_in marks m) e (rw is at h))

-- ---- the text of marks
pub board-put : (marks : Marks) (o : Output) {p q r : Output} → p ≡ put o (counted (codes "marks ") (length marks.kinds)) → q ≡ put p (lines_up_to marks (length marks.kinds)) → r ≡ put q (last_line marks.kinds) → r ≡ put o (board_text marks)
unfolding board_text
board-put marks o e f g = put_then o _ (last_line marks.kinds) (put_then o _ (lines_up_to marks (length marks.kinds)) e f) g
