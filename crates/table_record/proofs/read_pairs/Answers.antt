-- `table_record::read_pairs` meets its contract: what is left to read at the loop's head gives what the whole gives.
use mathlib.Core.Path.{refl, ap, ◌∙◌}
use native.Mathlib.Omega.{arith}
use Rattle.table_record.specs.Pair.{reading_of}
use Rattle.table_record.proofs.Laws.{left-all, more-place, ends-place, turn_more, turn-ends, turn-neither, turn-fault}
use Rattle.table_record.proofs.read_pairs.Goals as goal

pub loop-pair-init : goal.loop-pair-init
loop-pair-init c = (refl, left-all _ _ _ _ _ c.requires.all_inside.1.0.0 c.requires.all_inside.1.0.1)

pub pair_at-requires : goal.pair_at-requires
pair_at-requires c = record { all_inside = omega (arith, c.requires.all_inside, c.loop-pair.invariant.0, c.loop-pair.invariant.1.inside); hinted_names_apart = c.requires.hinted_names_apart }

pub loop-pair-smaller : goal.loop-pair-smaller
loop-pair-smaller c = omega (arith, more-place _ _ _ _ _ _ _ _ c.pair_at.ensures c.loop-pair.invariant.1 _ (ap reading_of c.in-Ok.is) _ c.next_after.ensures _ c.in-More.is)

pub loop-pair-preserved : goal.loop-pair-preserved
loop-pair-preserved c = (c.pair_at.auto.cells ∙ c.loop-pair.invariant.0, turn_more _ _ _ _ _ _ _ _ c.pair_at.ensures c.loop-pair.invariant.1 _ (ap reading_of c.in-Ok.is) _ c.next_after.ensures _ c.in-More.is)

pub close_at-requires : goal.close_at-requires
close_at-requires c = record { at_bound = omega (arith, c.requires.all_inside, c.pair_at.auto.cells, c.loop-pair.invariant.0, ends-place _ _ _ _ _ _ _ _ c.pair_at.ensures c.loop-pair.invariant.1 _ (ap reading_of c.in-Ok.is) _ c.next_after.ensures _ c.in-Ends.is); required_of_rows = c.requires.required_of_rows }

pub shape_of-cells-in-Ends : goal.shape_of-cells-in-Ends
shape_of-cells-in-Ends c = c.pair_at.auto.cells ∙ c.loop-pair.invariant.0

pub returns-in-Ends : goal.returns-in-Ends
returns-in-Ends c = turn-ends _ _ _ _ _ _ _ _ c.pair_at.ensures c.loop-pair.invariant.1 _ (ap reading_of c.in-Ok.is) _ c.next_after.ensures _ _ c.in-Ends.is c.close_at.ensures

pub shape_of-cells-in-Neither : goal.shape_of-cells-in-Neither
shape_of-cells-in-Neither c = c.pair_at.auto.cells ∙ c.loop-pair.invariant.0

pub returns-in-Neither : goal.returns-in-Neither
returns-in-Neither c = turn-neither _ _ _ _ _ _ _ _ c.pair_at.ensures c.loop-pair.invariant.1 _ (ap reading_of c.in-Ok.is) _ c.next_after.ensures _ c.in-Neither.is

pub shape_of-cells-in-Err : goal.shape_of-cells-in-Err
shape_of-cells-in-Err c = c.pair_at.auto.cells ∙ c.loop-pair.invariant.0

pub returns-in-Err : goal.returns-in-Err
returns-in-Err c = turn-fault _ _ _ _ _ _ _ _ c.pair_at.ensures c.loop-pair.invariant.1 _ (ap reading_of c.in-Err.is)
