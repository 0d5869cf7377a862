-- `ordered_outline::TypeRule::is_typed_at` meets its contract: a task that was seen is there, and of any other nothing is promised.
use mathlib.Core.Path.{sym, ◌∙◌}
use Rattle.ordered_outline.proofs.Laws.{typed-there}
use Rattle.ordered_outline.proofs.TypeRule.is_typed_at.Goals as goal

pub returns-then-same_in : goal.returns-then-same_in
returns-then-same_in c = λ e. typed-there _ _ _ _ _ _ _ _ _ c.if-self-p.false (sym c.same_in.ensures ∙ c.if-same_in.true) (sym c.is_word.ensures ∙ e)
