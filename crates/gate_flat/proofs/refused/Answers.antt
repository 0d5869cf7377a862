-- `gate_flat::refused` meets its contract.
use mathlib.Core.Path.{refl}
use Rattle.gate_flat.specs.Code.{refused_by}
use Rattle.gate_flat.proofs.refused.Goals as goal

pub returns : goal.returns
unfolding refused_by
returns c = refl
