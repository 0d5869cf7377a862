-- `link_classes::fill_column` meets its contract: the first r places have their classes.
-- Assumes nothing.
use native.Mathlib.Omega.{arith}
use Rattle.mark_numbers.proofs.Laws.{fill-starts, fill-stores, fill-ends}
use Rattle.key_order.proofs.Lists.{filled-whole}
use Rattle.rule_cells.specs.Cells.{text_of}
use Rattle.link_classes.proofs.fill_column.Goals as goal

pub loop-r-init : goal.loop-r-init
loop-r-init c = fill-starts _ _

pub loop-r-preserved : goal.loop-r-preserved
unfolding text_of
loop-r-preserved c = fill-stores _ _ c.loop-r.invariant (omega (arith, c.loop-r.invariant.long)) _ (rw c.start_of.ensures at c.class_of.ensures)

pub returns : goal.returns
returns c = filled-whole _ _ _ _ c.loop-r.invariant (omega (arith, c.loop-r.invariant.long)) (omega (arith, c.loop-r.invariant.long))
