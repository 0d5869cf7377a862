-- `ordered_key::first_repeat` meets its contract: the least so far and that of what is left are the least of all.
use Prim.Native.Nat.{◌+◌, ◌-◌}
use mathlib.Core.Path.{◌≡◌}
use native.Mathlib.Omega.{arith}
use Rattle.ordered_key.proofs.Least.{walk-starts, walk-goes-on, walk_ends}
use Rattle.ordered_key.proofs.first_repeat.Goals as goal

pub loop-i-init : goal.loop-i-init
loop-i-init c = walk-starts _ _

pub loop-i-preserved : goal.loop-i-preserved
loop-i-preserved c =
    let e : c.loop-i.i + 1 - 1 ≡ c.loop-i.i = omega arith in
    rw e (walk-goes-on _ _ _ _ _ (c.loop-i.i - 1) c.loop-i.i (omega arith) c.loop-i.invariant c.loop-i-test.true c.repeat_of-found.ensures c.lesser-least.ensures)

pub returns : goal.returns
returns c = walk_ends _ _ _ (c.loop-i.i - 1) c.loop-i.invariant (omega arith)
