-- `quarter::totals_with` meets its contract: the first i places have their sums.
-- Assumes nothing.
use Prim.Native.Nat.{◌-◌}
use native.Mathlib.Omega.{arith}
use Rattle.exact_sums.specs.Sums.{whole_at}
use Rattle.exact_sums.proofs.Lists.{fill-starts, fill-stores, fill-ends}
use Rattle.quarter.specs.Code.{totals_with}
use Rattle.quarter.proofs.Totals.{two-held, two-read}
use borrow.Author.Rules.{rules}
use Rattle.quarter.proofs.totals_with.Goals as goal

pub loop-i-init : goal.loop-i-init
loop-i-init c = (fill-starts _ _, omega arith, search rules)

pub overflow_add-after : goal.overflow_add-after
unfolding whole_at
overflow_add-after c = two-held (whole_at c.args.totals c.loop-i.i) (whole_at c.args.sums c.loop-i.i) (c.requires c.loop-i.i c.loop-i-test.true)

pub bounds-after-i : goal.bounds-after-i
bounds-after-i c = omega (arith, c.loop-i.invariant.0.long, c.loop-i.invariant.2)

pub loop-i-preserved : goal.loop-i-preserved
unfolding whole_at
loop-i-preserved c = (fill-stores _ _ c.loop-i.invariant.0 (omega (arith, c.loop-i.invariant.2)) _ (two-read (whole_at c.args.totals c.loop-i.i) (whole_at c.args.sums c.loop-i.i) (c.requires c.loop-i.i c.loop-i-test.true)), omega arith, c.loop-i.invariant.2)

pub returns : goal.returns
unfolding totals_with
returns c = fill-ends _ _ c.loop-i.invariant.0 24 c.loop-i.invariant.2 c.loop-i-test.false
