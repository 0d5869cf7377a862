-- `quarter::with_sums` meets its contract: every sum is held, and the state is the definition's.
-- Assumes nothing.
use native.Mathlib.Omega.{arith}
use Rattle.quarter.proofs.Laws.{few-sets, sums-hold, totals-hold, accepted-is}
use Rattle.quarter.proofs.with_sums.Goals as goal

pub totals_with-totals-requires : goal.totals_with-totals-requires
totals_with-totals-requires c = sums-hold _ c.requires.not_refused _ c.requires.sums_bounded

pub bounds-left-sets : goal.bounds-left-sets
bounds-left-sets c = omega (arith, few-sets _ c.requires.not_refused)

pub overflow_add-quarter : goal.overflow_add-quarter
overflow_add-quarter c = omega (arith, few-sets _ c.requires.not_refused)

pub grand_of-grand-requires : goal.grand_of-grand-requires
grand_of-grand-requires c = totals-hold _ c.requires.not_refused _ c.requires.sums_bounded c.totals_with-totals.ensures

pub returns : goal.returns
returns c = accepted-is _ _ c.totals_with-totals.ensures c.grand_of-grand.ensures
