-- `gate_c::put_size` meets its contract.
use mathlib.Core.Path.{refl, sym}
use Rattle.gate_c.proofs.Laws.{kept, replaced}
use Rattle.gate_c.proofs.put_size.Goals as goal

pub returns-then-refusal-ne0 : goal.returns-then-refusal-ne0
returns-then-refusal-ne0 c = record { value = refl; size_after = sym (kept _ _ _ c.if-refusal-ne0.true) }

pub returns : goal.returns
returns c = record { value = sym c.if-refusal-ne0.false; size_after = sym (replaced _ _ _ c.if-refusal-ne0.false) }
