-- `rule_value::are_plain` meets its contract: at the loop's head each value that was passed is such a word.
use Rattle.rule_value.specs.Plain.{PlainValues}
use Rattle.rule_value.proofs.are_plain.Given as goal

abbrev pub invariant-loop-i : goal.invariant-loop-i
invariant-loop-i l = PlainValues l.places l.texts l.first l.i
