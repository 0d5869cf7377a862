-- `gate_c::put_front` meets its contract.
use native.Mathlib.Omega.{arith}
use Rattle.gate_c.proofs.Files.{front-none, front-well}
use Rattle.gate_c.proofs.put_front.Goals as goal

pub returns-then-out-text : goal.returns-then-out-text
returns-then-out-text c = let whole = front-none _ _ c.if-out-text.true in record { value = whole.0; out_after = whole.1 }

pub returns : goal.returns
returns c = let whole = front-well _ _ (omega arith) c.put_part.ensures in record { value = whole.0; out_after = whole.1 }
