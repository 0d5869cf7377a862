-- What is printed, from what the report and the judgement ensure.
-- Assumes nothing.
use Prim.Native.Nat.{ℕ, ◌≤◌, ◌<◌}
use mathlib.Core.Path.{◌≡◌}
use mathlib.Core.Bool.{cond}
use mathlib.Core.List.{List, ◌++◌}
use lib.ListN.{length, take, drop}
use lib.Seq.{take-append_seam}
use lib.Dec.{leb}
use borrow.Author.Tests.{le-leb, lt-ltb, le-ltb}
use Rattle.boards.specs.declared.Board.{Board}
use Rattle.report.specs.Report.{report_of}
use Rattle.gate_contract.specs.Board.{marks_on}
use Rattle.gate_calls.specs.Calls.{judgement}
use Rattle.contract.specs.Contract.{contract}
use Rattle.gate_contract.specs.Gate.{verdict_of}
use Rattle.gate_boards.specs.declared.Verdict.{Verdict}
use Rattle.judge_contract.specs.Printed.{printed}

-- a report's length and its text in an output that is long enough
module _ (refusal : ℕ) (board : Board 19) (out : List ℕ) (room : 2176 ≤ length out) {r : ℕ} {exit : List ℕ} (e : r ≡ cond (leb 2176 (length out)) (length (report_of refusal (marks_on board))) 0) (q : exit ≡ cond (leb 2176 (length out)) (report_of refusal (marks_on board) ++ drop (length (report_of refusal (marks_on board))) out) out) where
  pub report-front : take r exit ≡ report_of refusal (marks_on board)
  report-front = rw (e, q, le-leb 2176 (length out) room) (take-append_seam (report_of refusal (marks_on board)) (drop (length (report_of refusal (marks_on board))) out))

-- the report of a judgement, and that of a bundle that is too long
pub judged : (s : List ℕ) → length s ≤ 65536 → {v : Verdict 19} → v ≡ verdict_of (judgement contract s) → report_of v.refusal (marks_on v.board) ≡ printed s
unfolding printed verdict_of
judged s l q = rw (le-ltb 65536 (length s) l, q)

pub too_long : (s : List ℕ) → 65536 < length s → (board : Board 19) → report_of 1 (marks_on board) ≡ printed s
unfolding printed report_of
too_long s l board = rw (lt-ltb 65536 (length s) l)
