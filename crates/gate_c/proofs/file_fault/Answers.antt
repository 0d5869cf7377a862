-- `gate_c::file_fault` meets its contract.
use Rattle.gate_c.proofs.Files.{gate-unknown, present-ill, place-ill, lists-well}
use Rattle.gate_c.proofs.file_fault.Goals as goal

pub returns-then-gate-gt2 : goal.returns-then-gate-gt2
returns-then-gate-gt2 c = gate-unknown _ _ _ _ _ c.if-gate-gt2.true

pub returns-then-present-ne1 : goal.returns-then-present-ne1
returns-then-present-ne1 c = present-ill _ _ _ _ _ c.if-gate-gt2.false c.if-present-ne1.true

pub returns-then-place-ne2 : goal.returns-then-place-ne2
returns-then-place-ne2 c = place-ill _ _ _ _ _ c.if-gate-gt2.false c.if-present-ne1.false c.if-place-ne2.true

pub returns : goal.returns
returns c = lists-well _ _ _ _ _ c.if-gate-gt2.false c.if-present-ne1.false c.if-place-ne2.false c.which_of.ensures c.file_count.ensures.0 c.lookup_fault.ensures
