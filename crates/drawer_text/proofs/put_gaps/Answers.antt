-- `drawer_text::put_gaps` meets its contract.
-- Assumes nothing.
use mathlib.Core.Path.{refl}
use native.Mathlib.Omega.{arith}
use Rattle.bundle_layout.specs.Bundle.{header_size}
use Rattle.drawer_text.proofs.Gaps.{ahead_of, scan-start, scan-next, start-from, end-grows, gaps-next, gaps-end}
use Rattle.drawer_text.proofs.put_gaps.Goals as goal

pub loop-p-init : goal.loop-p-init
unfolding header_size
loop-p-init c = (refl, refl, scan-start 20 _ _ _ c.requires)

pub overflow_sub-start : goal.overflow_sub-start
overflow_sub-start c = start-from 20 _ _ _ c.requires _ c.loop-p.invariant.2 c.loop-p-test.true (ahead_of _ _ _ _ 20 c.file_ahead-next.ensures)

pub loop-p-smaller : goal.loop-p-smaller
loop-p-smaller c = omega (arith, end-grows 20 _ _ _ c.requires _ c.loop-p.invariant.2 c.loop-p-test.true (ahead_of _ _ _ _ 20 c.file_ahead-next.ensures))

pub loop-p-preserved : goal.loop-p-preserved
loop-p-preserved c = let a = ahead_of _ _ _ _ 20 c.file_ahead-next.ensures in (
  gaps-next 20 _ _ _ c.requires _ c.loop-p.invariant.2 c.loop-p-test.true a _ c.put_gap-end.ensures c.loop-p.invariant.0,
  omega arith,
  scan-next 20 _ _ _ c.requires _ c.loop-p.invariant.2 c.loop-p-test.true a,
)

pub returns : goal.returns
returns c = gaps-end 20 _ _ _ c.requires _ _ (omega arith) c.loop-p.invariant.0
