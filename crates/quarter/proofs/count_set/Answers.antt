-- `quarter::count_set` meets its contract: the flags so far are counted.
-- Assumes nothing.
use Prim.Native.Nat.{ℕ, ◌+◌, ◌-◌, ◌≤◌}
use mathlib.Core.Path.{◌≡◌, refl, sym, ap, ◌∙◌}
use native.Mathlib.Omega.{arith}
use Rattle.quarter.specs.Quarter.{trues}
use Rattle.quarter.proofs.Totals.{flag-set, flag-clear, flags-end}
use Rattle.quarter.proofs.count_set.Goals as goal

the_end : (i n : ℕ) → i ≤ n → n ≤ i → i ≡ n
the_end i n h l = omega arith

pub loop-i-init : goal.loop-i-init
unfolding trues
loop-i-init c = (omega arith, omega arith, refl, omega arith)

pub returns-then-n-i : goal.returns-then-n-i
returns-then-n-i c = c.loop-i.invariant.2 ∙ rw (the_end _ _ c.loop-i.invariant.0 c.if-n-i.true)

pub loop-i-preserved-then-set : goal.loop-i-preserved-then-set
loop-i-preserved-then-set c = (omega arith, omega arith, ap (λ x. x + 1) c.loop-i.invariant.2 ∙ sym (flag-set _ _ c.loop-i-test.true c.if-set.true), omega arith)

pub loop-i-preserved : goal.loop-i-preserved
loop-i-preserved c = (omega arith, omega arith, c.loop-i.invariant.2 ∙ sym (flag-clear _ _ c.loop-i-test.true c.if-set.false), omega arith)

pub returns : goal.returns
returns c = c.loop-i.invariant.2 ∙ ap trues (flags-end _ _ _ c.loop-i-test.false c.loop-i.invariant.0)
