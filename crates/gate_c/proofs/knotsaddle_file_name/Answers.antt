-- `gate_c::knotsaddle_file_name` meets its contract: what stands at the front of 36 bytes is the name.
use Rattle.gate_c.proofs.Files.{front_of, front-empty, file-unknown, file-named}
use Rattle.gate_c.proofs.knotsaddle_file_name.Goals as goal

pub returns-then-gate-gt2 : goal.returns-then-gate-gt2
returns-then-gate-gt2 c = let whole = front-empty _ (file-unknown _ _ c.if-gate-gt2.true) in record { value = whole.0; out_after = whole.1 }

pub returns : goal.returns
returns c = let whole = front_of _ (file-named _ _ c.if-gate-gt2.false c.which_of.ensures c.put_file_of-end.ensures c.part.ensures) (c.put_front.ensures.value, c.put_front.ensures.out_after) in record { value = whole.0; out_after = whole.1 }
