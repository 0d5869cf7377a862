-- `rule_outline::climb` meets its contract: past a record that is not lower the search goes on at its parent.
use mathlib.Core.Path.{refl, sym, ◌∙◌}
use native.Mathlib.Omega.{arith}
use Prim.Native.Nat.{◌-◌}
use Rattle.rule_outline.proofs.Laws.{climb-ends-at, climb-goes-on, climb-finds-none, held-earlier}
use Rattle.rule_outline.proofs.climb.Goals as goal

pub loop-p-init : goal.loop-p-init
loop-p-init c = (omega arith, refl)

pub returns-then-at-low : goal.returns-then-at-low
returns-then-at-low c = sym (c.loop-p.invariant.1 ∙ climb-ends-at _ _ c.loop-p-test.true c.level_of-at.ensures c.if-at-low.true)

pub overflow_cast-p : goal.overflow_cast-p
overflow_cast-p c = omega (arith, c.shared_slice_known-in-loop-p-1.given (c.loop-p.p - 1))

pub loop-p-smaller : goal.loop-p-smaller
loop-p-smaller c = held-earlier _ _ c.loop-p-test.true c.args.parents.now (omega arith) c.requires

pub loop-p-preserved : goal.loop-p-preserved
loop-p-preserved c = (omega (arith, held-earlier _ _ c.loop-p-test.true c.args.parents.now (omega arith) c.requires), c.loop-p.invariant.1 ∙ climb-goes-on _ _ c.loop-p-test.true c.args.parents.now (omega arith) c.requires c.level_of-at.ensures c.if-at-low.false)

pub returns : goal.returns
returns c = sym (c.loop-p.invariant.1 ∙ climb-finds-none _ _ _ c.loop-p-test.false)
