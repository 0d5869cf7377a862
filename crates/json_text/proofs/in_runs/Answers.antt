-- `json_text::in_runs` meets its contract: the runs that are left answer as all of them do.
use Rattle.std.proofs.Common.{arith, sym, ◌∙◌}
use Rattle.json_text.proofs.Spaces.{run_holds, run-passed, runs-end}
use Rattle.json_text.proofs.in_runs.Goals as goal

pub returns-then-is_within : goal.returns-then-is_within
returns-then-is_within c = grind (arith, c.loop-run.invariant, run_holds _ _ _ c.loop-run-test.true (sym c.is_within.ensures ∙ c.if-is_within.true))

pub loop-run-preserved : goal.loop-run-preserved
loop-run-preserved c = c.loop-run.invariant ∙ run-passed _ _ _ c.loop-run-test.true (sym c.is_within.ensures ∙ c.if-is_within.false)

pub returns : goal.returns
returns c = sym (c.loop-run.invariant ∙ runs-end _ _ _ c.loop-run-test.false)
