-- `table_file::read_elements` meets its contract: what is left to read at the loop's head gives what the whole gives.
use mathlib.Core.Path.{refl, ◌∙◌}
use native.Mathlib.Omega.{arith}
use Rattle.json_bytes.specs.Reads.{within}
use Rattle.table_file.specs.Table.{names_record, companion_of}
use Rattle.table_file.proofs.Laws.{ahead-all, ahead_more, array_told, alone-ends, either-fault, more-place, ends-place, turn_more, turn-ends, turn-neither}
use Rattle.table_file.proofs.read_elements.Goals as goal

pub loop-end-init : goal.loop-end-init
loop-end-init c = (refl, ahead-all _ _ _ _ _ c.requires.from_inside)

pub element_at-requires : goal.element_at-requires
element_at-requires c = record { hinted_names_apart = c.requires.hinted_names_apart; required_of_rows = c.requires.required_of_rows }

pub shape_of-cells-then-single : goal.shape_of-cells-then-single
shape_of-cells-then-single c = c.element_at.auto.cells ∙ c.loop-end.invariant.0

pub returns-then-single : goal.returns-then-single
returns-then-single c = alone-ends _ _ _ _ _ _ _ _ c.loop-end.invariant.1 _ _ c.element_at.ensures c.if-single.true _ c.in-Ok.is _ c.end_of_file.ensures

pub overflow_add-r : goal.overflow_add-r
overflow_add-r c = omega (arith, c.loop-end.invariant.1.few)

pub loop-end-smaller : goal.loop-end-smaller
loop-end-smaller c = omega (arith, more-place _ _ _ _ _ _ _ _ c.element_at.ensures (c.loop-end.invariant.1.array c.if-single.false) _ c.in-Ok.is _ c.next_after.ensures _ c.in-More.is)

pub loop-end-preserved : goal.loop-end-preserved
loop-end-preserved c = (c.element_at.auto.cells ∙ c.loop-end.invariant.0, ahead_more _ _ _ _ _ _ _ _ c.if-single.false (turn_more _ _ _ _ _ _ _ _ c.element_at.ensures (c.loop-end.invariant.1.array c.if-single.false) _ c.in-Ok.is _ c.next_after.ensures _ c.in-More.is))

pub overflow_add-last : goal.overflow_add-last
overflow_add-last c = omega (arith, ends-place _ _ _ _ _ _ _ _ c.element_at.ensures (c.loop-end.invariant.1.array c.if-single.false) _ c.in-Ok.is _ c.next_after.ensures _ c.in-Ends.is)

pub overflow_add-r-in-Ends : goal.overflow_add-r-in-Ends
overflow_add-r-in-Ends c = omega (arith, c.loop-end.invariant.1.few)

pub shape_of-cells-in-Ends : goal.shape_of-cells-in-Ends
shape_of-cells-in-Ends c = c.element_at.auto.cells ∙ c.loop-end.invariant.0

pub returns-in-Ends : goal.returns-in-Ends
returns-in-Ends c = array_told _ _ _ _ _ _ c.if-single.false (turn-ends _ _ _ _ _ _ _ _ c.element_at.ensures (c.loop-end.invariant.1.array c.if-single.false) _ c.in-Ok.is _ c.next_after.ensures _ _ c.in-Ends.is c.end_of_file-in-Ends.ensures)

pub shape_of-cells-in-Neither : goal.shape_of-cells-in-Neither
shape_of-cells-in-Neither c = c.element_at.auto.cells ∙ c.loop-end.invariant.0

pub returns-in-Neither : goal.returns-in-Neither
unfolding companion_of names_record within
returns-in-Neither c = array_told _ _ _ _ _ _ c.if-single.false (turn-neither _ _ _ _ _ _ _ _ c.element_at.ensures (c.loop-end.invariant.1.array c.if-single.false) _ c.in-Ok.is _ c.next_after.ensures _ c.in-Neither.is)

pub overflow_add-r-in-Err : goal.overflow_add-r-in-Err
overflow_add-r-in-Err c = omega (arith, c.loop-end.invariant.1.few)

pub shape_of-cells-in-Err : goal.shape_of-cells-in-Err
shape_of-cells-in-Err c = c.element_at.auto.cells ∙ c.loop-end.invariant.0

pub returns-in-Err : goal.returns-in-Err
returns-in-Err c = either-fault _ _ _ _ _ _ _ _ c.loop-end.invariant.1 _ _ c.element_at.ensures _ _ c.in-Err.is _ c.companion_of.ensures
