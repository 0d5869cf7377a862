-- `json_same::run_of` meets its contract: the run from here ends as the whole run does.
use Rattle.std.proofs.Common.{◌≡◌, ◌≤◌, drop}
use Rattle.json_same.specs.Walk.{run_from}
use Rattle.json_same.proofs.run_of.Given as goal

abbrev pub invariant-loop-k : goal.invariant-loop-k
invariant-loop-k l = (l.k ≤ l.n) × (run_from l.case 0 l.s l.t ≡ run_from l.case l.k (drop l.k l.s) (drop l.k l.t))
