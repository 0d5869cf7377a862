-- `quarter::grand_of` meets its contract: the first c places have their sums.
-- Assumes nothing.
use Prim.Native.Nat.{◌-◌, ◌+◌}
use mathlib.Core.Path.{refl}
use native.Mathlib.Omega.{arith}
use Rattle.exact_sums.proofs.Lists.{fill-starts, fill-stores, fill-ends}
use Rattle.quarter.specs.Code.{column_grand, grand_of}
use Rattle.quarter.proofs.Totals.{first-held, second-held, third-held, four-read}
use Rattle.exact_sums.specs.Sums.{whole_at}
use Rattle.quarter.proofs.grand_of.Goals as goal

pub loop-c-init : goal.loop-c-init
loop-c-init c = (fill-starts _ _, omega arith, refl)

pub overflow_add-grand : goal.overflow_add-grand
unfolding whole_at
overflow_add-grand c = first-held (whole_at c.args.totals c.loop-c.c) (whole_at c.args.totals (c.loop-c.c + 6)) (whole_at c.args.totals (c.loop-c.c + 12)) (whole_at c.args.totals (c.loop-c.c + 18)) (c.requires c.loop-c.c (omega arith)) (c.requires (c.loop-c.c + 6) (omega arith)) (c.requires (c.loop-c.c + 12) (omega arith)) (c.requires (c.loop-c.c + 18) (omega arith))

pub overflow_add-grand-in-loop-c : goal.overflow_add-grand-in-loop-c
unfolding whole_at
overflow_add-grand-in-loop-c c = second-held (whole_at c.args.totals c.loop-c.c) (whole_at c.args.totals (c.loop-c.c + 6)) (whole_at c.args.totals (c.loop-c.c + 12)) (whole_at c.args.totals (c.loop-c.c + 18)) (c.requires c.loop-c.c (omega arith)) (c.requires (c.loop-c.c + 6) (omega arith)) (c.requires (c.loop-c.c + 12) (omega arith)) (c.requires (c.loop-c.c + 18) (omega arith))

pub overflow_add-grand-in-loop-c-2 : goal.overflow_add-grand-in-loop-c-2
unfolding whole_at
overflow_add-grand-in-loop-c-2 c = third-held (whole_at c.args.totals c.loop-c.c) (whole_at c.args.totals (c.loop-c.c + 6)) (whole_at c.args.totals (c.loop-c.c + 12)) (whole_at c.args.totals (c.loop-c.c + 18)) (c.requires c.loop-c.c (omega arith)) (c.requires (c.loop-c.c + 6) (omega arith)) (c.requires (c.loop-c.c + 12) (omega arith)) (c.requires (c.loop-c.c + 18) (omega arith))

pub bounds-grand-c : goal.bounds-grand-c
bounds-grand-c c = omega (arith, c.loop-c.invariant.0.long, c.loop-c.invariant.2)

pub loop-c-preserved : goal.loop-c-preserved
unfolding column_grand whole_at
loop-c-preserved c = (fill-stores _ _ c.loop-c.invariant.0 (omega (arith, c.loop-c.invariant.2)) _ (four-read (whole_at c.args.totals c.loop-c.c) (whole_at c.args.totals (c.loop-c.c + 6)) (whole_at c.args.totals (c.loop-c.c + 12)) (whole_at c.args.totals (c.loop-c.c + 18)) (c.requires c.loop-c.c (omega arith)) (c.requires (c.loop-c.c + 6) (omega arith)) (c.requires (c.loop-c.c + 12) (omega arith)) (c.requires (c.loop-c.c + 18) (omega arith))), omega arith, c.loop-c.invariant.2)

pub returns : goal.returns
unfolding grand_of
returns c = fill-ends _ _ c.loop-c.invariant.0 6 c.loop-c.invariant.2 c.loop-c-test.false
