-- `both_desks::write_bundle` meets its contract: the test decides the definition.
-- Assumes nothing.
use borrow.Author.Tests.{eq-eqb, ne_eqb}
use Rattle.both_desks.proofs.write_bundle.Goals as goal

pub returns-then-size-eq0 : goal.returns-then-size-eq0
returns-then-size-eq0 c = rw (eq-eqb _ 0 c.if-size-eq0.true)

pub returns : goal.returns
returns c = rw (ne_eqb _ 0 c.if-size-eq0.false) c.make_bundle.ensures.out_after
