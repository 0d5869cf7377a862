-- `json_text::rule_of` meets its contract: most characters break no rule.
use Rattle.std.proofs.Common.{sym}
use Rattle.json_text.proofs.Spaces.{graphic-right}
use Rattle.json_text.proofs.rule_of.Goals as goal

pub returns-then-is_within : goal.returns-then-is_within
returns-then-is_within c = sym (graphic-right _ _ c.is_within.ensures c.if-is_within.true _ _)
