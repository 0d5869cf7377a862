-- `unbundle::write_files` is safe and ends: each turn writes one file more, and the path keeps its length.
use mathlib.Core.Path.{refl}
use Rattle.unbundle.proofs.write_files.Goals as goal

pub loop-k-init : goal.loop-k-init
loop-k-init g c = refl
