-- `reason_text::put_keepers` meets its contract: after each turn the lines of the files below `file` are put.
use Prim.Native.Nat.{◌-◌}
use mathlib.Core.Path.{refl}
use native.Mathlib.Omega.{arith}
use Rattle.reason_text.proofs.Keepers.{keepers-start, keepers-next, keepers-end}
use Rattle.reason_text.proofs.put_keepers.Goals as goal

pub loop-file-init : goal.loop-file-init
loop-file-init c = (keepers-start _ _ _, refl, omega arith)

pub loop-file-preserved : goal.loop-file-preserved
loop-file-preserved c = (keepers-next _ _ _ _ c.count_kept.ensures c.loop-file.invariant.0 c.put_kept-end.ensures, omega arith, omega arith)

pub returns : goal.returns
returns c = keepers-end _ _ _ (omega arith) c.loop-file.invariant.0
