-- `gate_option::asked_by` meets its contract: the count of the arguments and the word that was named decide the definition.
use mathlib.Core.Path.{sym, ◌∙◌}
use Rattle.gate_option.proofs.Laws.{asked-alone, asked-otherwise, asked-gate, asked-nothing}
use Rattle.gate_option.proofs.asked_by.Goals as goal

pub returns-then-count-eq2 : goal.returns-then-count-eq2
returns-then-count-eq2 c = asked-alone _ _ c.if-count-eq2.true

pub returns-then-count-ne3 : goal.returns-then-count-ne3
returns-then-count-ne3 c = asked-otherwise _ _ c.if-count-eq2.false c.if-count-ne3.true

pub returns-in-Gate : goal.returns-in-Gate
returns-in-Gate c = asked-gate _ _ c.if-count-eq2.false c.if-count-ne3.false (sym c.gate_named.ensures ∙ c.in-Gate.is)

pub returns-in-Nothing : goal.returns-in-Nothing
returns-in-Nothing c = asked-nothing _ _ c.if-count-eq2.false c.if-count-ne3.false (sym c.gate_named.ensures ∙ c.in-Nothing.is)
