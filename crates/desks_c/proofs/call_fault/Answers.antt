-- `desks_c::call_fault` meets its contract.
use Rattle.desks_c.proofs.Laws.{fault-refusals, fault-size, fault-whose, fault-present, fault-none}
use Rattle.desks_c.proofs.call_fault.Goals as goal

pub returns-then-refusals-ne2 : goal.returns-then-refusals-ne2
returns-then-refusals-ne2 c = fault-refusals _ _ _ _ c.if-refusals-ne2.true

pub returns-then-size-ne1 : goal.returns-then-size-ne1
returns-then-size-ne1 c = fault-size _ _ _ _ c.if-refusals-ne2.false c.if-size-ne1.true

pub returns-then-whose-gt2 : goal.returns-then-whose-gt2
returns-then-whose-gt2 c = fault-whose _ _ _ _ c.if-refusals-ne2.false c.if-size-ne1.false c.if-whose-gt2.true

pub returns-then-present-gt1 : goal.returns-then-present-gt1
returns-then-present-gt1 c = fault-present _ _ _ _ c.if-refusals-ne2.false c.if-size-ne1.false c.if-whose-gt2.false c.if-present-gt1.true

pub returns : goal.returns
returns c = fault-none _ _ _ _ c.if-refusals-ne2.false c.if-size-ne1.false c.if-whose-gt2.false c.if-present-gt1.false
