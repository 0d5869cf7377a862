-- `gate_c::knotsaddle_empty` meets its contract: the text at the front of the output is the bundle.
use Rattle.gate_c.proofs.Files.{front_of, front-empty, empty-unknown, empty-of-four, empty-of-twenty}
use Rattle.gate_c.proofs.knotsaddle_empty.Goals as goal

pub returns-then-gate-gt2 : goal.returns-then-gate-gt2
returns-then-gate-gt2 c = let whole = front-empty _ (empty-unknown _ c.if-gate-gt2.true) in record { value = whole.0; out_after = whole.1 }

pub returns-then-gate-eq2 : goal.returns-then-gate-eq2
returns-then-gate-eq2 c = let whole = front_of _ (empty-of-four _ c.if-gate-gt2.false c.if-gate-eq2.true c.empty_contract-four.ensures) (c.put_front.ensures.value, c.put_front.ensures.out_after) in record { value = whole.0; out_after = whole.1 }

pub returns : goal.returns
returns c = let whole = front_of _ (empty-of-twenty _ c.if-gate-gt2.false c.if-gate-eq2.false c.empty_bundle-bundle.ensures) (c.put_front-2.ensures.value, c.put_front-2.ensures.out_after) in record { value = whole.0; out_after = whole.1 }
