-- `reason_text::count_kept` meets its contract: after each turn what was found and what is left come to the whole.
use Prim.Native.Nat.{◌-◌}
use native.Mathlib.Omega.{arith}
use Rattle.reason_text.proofs.Keepers.{count_next, count-end}
use Rattle.reason_text.proofs.count_kept.Goals as goal

pub loop-i-init : goal.loop-i-init
loop-i-init c = (omega arith, omega arith, omega arith)

pub loop-i-preserved : goal.loop-i-preserved
loop-i-preserved c = (count_next _ _ _ _ _ c.loop-i-test.true c.one_where_same-found.ensures.0 c.loop-i.invariant.0, omega arith, omega arith)

pub returns : goal.returns
returns c = count-end _ _ _ _ c.loop-i-test.false c.loop-i.invariant.0
