-- `drawer_text::put_all_held` meets its contract.
-- Assumes nothing.
use mathlib.Core.Path.{refl}
use native.Mathlib.Omega.{arith}
use Rattle.drawer_text.proofs.Puts.{held_start, held_next, held-end}
use Rattle.drawer_text.proofs.put_all_held.Goals as goal

pub loop-k-init : goal.loop-k-init
loop-k-init c = (held_start _ _, refl)

pub loop-k-preserved : goal.loop-k-preserved
loop-k-preserved c = (held_next _ _ _ c.loop-k.invariant.0 c.put_held-end.ensures, omega arith)

pub returns : goal.returns
returns c = held-end _ _ _ (omega arith) c.loop-k.invariant.0
