-- `json_text::in_runs` meets its contract: the runs that are left answer as all of them do.
use Rattle.std.proofs.Common.{◌≡◌, drop}
use Rattle.json_text.specs.Text.{in_runs}
use Rattle.json_text.proofs.in_runs.Given as goal

abbrev pub invariant-loop-run : goal.invariant-loop-run
invariant-loop-run l = in_runs l.runs l.c ≡ in_runs (drop l.run-index l.runs) l.c
