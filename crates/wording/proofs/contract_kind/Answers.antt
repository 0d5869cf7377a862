-- `wording::contract_kind` meets its contract.
use borrow.Author.Tests.{eq-eqb, ne_eqb}
use Rattle.wording.proofs.contract_kind.Goals as goal

pub returns-then-kind-eq12 : goal.returns-then-kind-eq12
returns-then-kind-eq12 c = rw (eq-eqb _ 12 c.if-kind-eq12.true)

pub returns : goal.returns
returns c = rw (ne_eqb _ 12 c.if-kind-eq12.false) c.kind_among.ensures
