-- `unbundle::is_ready` is safe and ends: each turn asks for one name more, and the path keeps its length.
use mathlib.Core.Path.{refl}
use Rattle.unbundle.proofs.is_ready.Goals as goal

pub loop-k-init : goal.loop-k-init
loop-k-init g c = refl
