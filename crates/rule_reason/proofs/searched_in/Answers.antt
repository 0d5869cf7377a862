-- `rule_reason::searched_in` meets its contract: a target names its file, and any other shape has none.
use Rattle.rule_reason.specs.Reason.{searched_in}
use Rattle.rule_reason.proofs.Laws.{no_target}
use Rattle.rule_reason.proofs.searched_in.Goals as goal

pub returns-in-TargetIn : goal.returns-in-TargetIn
unfolding searched_in
returns-in-TargetIn c = rw (← c.rule_at-rule.ensures, c.in-TargetIn.is)

pub returns-in_default : goal.returns-in_default
returns-in_default c = rw (← c.rule_at-rule.ensures) (no_target _ c.in_default.not-TargetIn)
