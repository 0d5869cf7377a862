-- The text of n marks, up to 999, fits the room that is asked for them.
-- Assumes nothing.
use Prim.Native.Nat.{ℕ, zero, suc, ◌+◌, ◌*◌, ◌^◌, ◌≤◌, ◌<◌}
use mathlib.Core.Bool.{Bool, true, false, cond}
use mathlib.Core.List.{List, []}
use native.Mathlib.Omega.{arith}
use mir.Syntax.{w32, w64}
use mir.Val.{Fits}
use lib.ListN.{length, get_or, length-append}
use lib.Dec.{eqb}
use Rattle.json_bytes.specs.Ascii.{codes}
use Rattle.bundle_bytes.specs.Pieces.{joined}
use Rattle.mark_numbers.specs.Marks.{Marks, mark_in, faults_up_to, faults_in}
use Rattle.mark_numbers.specs.declared.Mark.{Mark}
use Rattle.report.specs.Report.{counted, line_numbers, line_of, line_in, lines_up_to, is_accepted, last_line, board_text, refusal_text, report_of, text_room}
use Rattle.output.proofs.Digits.{decimal-length}

one_of : (t : Bool) (v w : List ℕ) (n : ℕ) → length v ≤ n → length w ≤ n → length (cond t v w) ≤ n
one_of true v w n l r = l
one_of false v w n l r = r

counted-length : (word : List ℕ) (x : ℕ) → x < 2 ^ 64 → length (counted word x) ≤ length word + 21
unfolding counted codes
counted-length word x l = simp length-append (omega (arith, decimal-length x 19 (omega arith)))

-- a number below 1,000, one of 32 bits and two of 64, with a byte behind each
line-length : (m : ℕ) (mark : Mark) → m < 1000 → mark.kind < 2 ^ 32 → mark.place < 2 ^ 64 → mark.companion < 2 ^ 64 → length (line_of m mark) ≤ 57
unfolding line_of line_numbers codes
line-length m mark l k p c =
    one_of (eqb mark.kind 0) [] _ 57 (omega arith)
    (simp length-append (omega (arith, decimal-length m 2 (omega arith), decimal-length mark.kind 9 (omega arith), decimal-length mark.place 19 (omega arith), decimal-length mark.companion 19 (omega arith))))

faults-most : (kinds : List ℕ) (n : ℕ) → faults_up_to kinds n ≤ n
unfolding faults_up_to
faults-most kinds zero = omega arith
faults-most kinds (suc n) = go (eqb (get_or kinds n 0) 0) (faults-most kinds n)
  where
    go : (t : Bool) → faults_up_to kinds n ≤ n → cond t (faults_up_to kinds n) (faults_up_to kinds n + 1) ≤ suc n
    go true l = omega arith
    go false l = omega arith

-- of lists whose numbers are of their types
module _ (marks : Marks) (kinds-fit : (m : ℕ) → Fits w32 (get_or marks.kinds m 0)) (places-fit : (m : ℕ) → Fits w64 (get_or marks.places m 0)) (companions-fit : (m : ℕ) → Fits w64 (get_or marks.companions m 0)) (few : length marks.kinds ≤ 999) where
  lines-length : (n : ℕ) → n ≤ 999 → length (lines_up_to marks n) ≤ 57 * n
  unfolding lines_up_to joined line_in mark_in
  lines-length zero l = omega arith
  lines-length (suc n) l =
      omega (
        arith,
        length-append (joined (line_in marks) n) (line_in marks n),
        lines-length n (omega arith),
        line-length n (mark_in marks n) (omega arith) (kinds-fit n).fits (places-fit n).fits (companions-fit n).fits,
      )

  last-length : length (last_line marks.kinds) ≤ 29
  unfolding last_line faults_in codes
  last-length =
      one_of (is_accepted marks.kinds) (codes "accepted\n") _ 29 (omega arith)
      (counted-length (codes "refused ") (faults_in marks.kinds) (omega (arith, faults-most marks.kinds (length marks.kinds))))

  board-length : length (board_text marks) ≤ text_room (length marks.kinds)
  unfolding board_text codes
  board-length =
      simp length-append
      (omega (arith, counted-length (codes "marks ") (length marks.kinds) (omega arith), lines-length (length marks.kinds) few, last-length))

  pub report-length : (refusal : ℕ) → refusal < 2 ^ 64 → length (report_of refusal marks) ≤ text_room (length marks.kinds)
  unfolding report_of refusal_text codes
  report-length refusal l =
      one_of (eqb refusal 0) (board_text marks) _ _ board-length (omega (arith, counted-length (codes "bundle ") refusal l))
