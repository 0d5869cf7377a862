-- `json_text::run_end` meets its contract: what is left of the run from here ends where the whole run ends.
use Rattle.std.proofs.Common.{◌≡◌, ◌-◌, ◌≤◌, length}
use Rattle.json_text.specs.Run.{run_end}
use Rattle.json_text.proofs.run_end.Given as goal

abbrev pub invariant-loop-j : goal.invariant-loop-j
invariant-loop-j l = (run_end l.s l.i ≡ run_end l.s l.j) × (l.j ≤ length l.s)

abbrev pub decreases-loop-j : goal.decreases-loop-j
decreases-loop-j l = length l.s - l.j
