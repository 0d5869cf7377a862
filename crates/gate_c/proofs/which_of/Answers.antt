-- `gate_c::which_of` meets its contract.
use borrow.Author.Tests.{eq-eqb, ne_eqb}
use Rattle.gate_c.specs.Calls.{which_of}
use Rattle.gate_c.proofs.which_of.Goals as goal

pub returns-then-gate-eq2 : goal.returns-then-gate-eq2
unfolding which_of
returns-then-gate-eq2 c = rw (eq-eqb _ 2 c.if-gate-eq2.true)

pub returns-then-gate-eq1 : goal.returns-then-gate-eq1
unfolding which_of
returns-then-gate-eq1 c = rw (ne_eqb _ 2 c.if-gate-eq2.false, eq-eqb _ 1 c.if-gate-eq1.true)

pub returns : goal.returns
unfolding which_of
returns c = rw (ne_eqb _ 2 c.if-gate-eq2.false, ne_eqb _ 1 c.if-gate-eq1.false)
