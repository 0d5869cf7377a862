-- `gate_lists::refusal_of` meets its contract: the tests that led to each answer decide the definition.
use borrow.Author.Tests.{eq-eqb, ne_eqb}
use Rattle.gate_lists.proofs.refusal_of.Goals as goal

pub returns-then-fault-ne0 : goal.returns-then-fault-ne0
returns-then-fault-ne0 c = rw (ne_eqb _ 0 c.if-fault-ne0.true)

pub returns : goal.returns
returns c = rw (eq-eqb _ 0 c.if-fault-ne0.false) c.bundle_fault.ensures
