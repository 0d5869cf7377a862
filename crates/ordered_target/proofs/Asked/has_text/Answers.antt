-- `ordered_target::Asked::has_text` meets its contract: a record that has the text is a target, and of any other nothing is promised.
use Rattle.std.proofs.Common.{sym, ◌∙◌}
use Rattle.ordered_target.proofs.Laws.{seen}
use Rattle.ordered_target.proofs.Asked.has_text.Goals as goal

pub returns-then-q-self : goal.returns-then-q-self
returns-then-q-self c = λ e. seen _ _ _ _ _ _ _ _ c.if-q-self.true c.start_of-start.ensures (sym c.same_text.ensures ∙ e)
