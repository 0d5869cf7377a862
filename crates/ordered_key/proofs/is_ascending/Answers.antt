-- `ordered_key::is_ascending` meets its contract: what is left of the search at the loop's head answers as the whole does.
use Prim.Native.Nat.{◌+◌, ◌-◌}
use mathlib.Core.Path.{◌≡◌, refl}
use native.Mathlib.Omega.{arith}
use Rattle.ordered_key.proofs.Ascending.{climb-starts, climb-goes-on, falls-here, climb-ends}
use Rattle.ordered_key.proofs.is_ascending.Goals as goal

pub loop-i-init : goal.loop-i-init
loop-i-init c = climb-starts _ _

pub loop-i-preserved : goal.loop-i-preserved
loop-i-preserved c =
    let e : c.loop-i.i + 1 - 1 ≡ c.loop-i.i = omega arith in
    rw e (climb-goes-on _ _ (c.loop-i.i - 1) c.loop-i.i (omega arith) c.loop-i.invariant c.loop-i-test.true _ c.compare_ids_first.ensures c.in-Less.is)

pub returns-in_default : goal.returns-in_default
returns-in_default c = falls-here _ _ (c.loop-i.i - 1) c.loop-i.i (omega arith) c.loop-i.invariant c.loop-i-test.true _ c.compare_ids_first.ensures c.in_default.not-Less

pub returns : goal.returns
returns c = climb-ends _ _ (c.loop-i.i - 1) (c.loop-i.i - 1 + 1) refl c.loop-i.invariant (omega arith)
