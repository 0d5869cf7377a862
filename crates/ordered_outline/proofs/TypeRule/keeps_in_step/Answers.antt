-- `ordered_outline::TypeRule::keeps_in_step` meets its contract: a record keeps the rule without a parent, and with one whose task was seen.
use Rattle.ordered_outline.proofs.Laws.{no-parent-keeps, typed-parent-keeps}
use Rattle.ordered_outline.proofs.TypeRule.keeps_in_step.Goals as goal

pub returns-then-p-eq0 : goal.returns-then-p-eq0
returns-then-p-eq0 c = λ e. no-parent-keeps _ _ _ _ _ _ _ _ _ _ _ _ c.parent_of-p.ensures c.if-p-eq0.true

pub returns-else-p-eq0 : goal.returns-else-p-eq0
returns-else-p-eq0 c = λ e. typed-parent-keeps _ _ _ _ _ _ _ _ _ _ _ _ c.parent_of-p.ensures c.if-p-eq0.false (c.is_typed_at.ensures e)
