-- `rule_outline::fill_parents` meets its contract: the front of the list has the parents of the records passed.
use mathlib.Core.Path.{refl, sym}
use native.Mathlib.Omega.{arith}
use lib.ListN.{length-set}
use lib.Seq.{length-take-le}
use Rattle.rule_outline.specs.Outline.{parents_up_to}
use Rattle.rule_outline.proofs.Laws.{front-holds, climbed, climbed-within, fill-next}
use Rattle.rule_outline.proofs.fill_parents.Goals as goal

pub loop-r-init : goal.loop-r-init
unfolding parents_up_to
loop-r-init c = (refl, refl)

pub slice_bounds-climb-end-in-loop-r : goal.slice_bounds-climb-end-in-loop-r
slice_bounds-climb-end-in-loop-r c = sym (length-take-le _ _ (omega arith))

pub climb-p-requires : goal.climb-p-requires
climb-p-requires c = front-holds _ _ _ _ c.loop-r.invariant.1

pub overflow_cast-parents : goal.overflow_cast-parents
overflow_cast-parents c = omega (arith, climbed-within _ _ _ _ c.loop-r.invariant.1 c.level_of-low.ensures c.climb-p.ensures)

pub loop-r-preserved : goal.loop-r-preserved
loop-r-preserved c = (simp length-set c.loop-r.invariant.0, fill-next _ _ _ _ c.loop-r.invariant.1 (omega arith) (climbed _ _ _ _ c.loop-r.invariant.1 c.level_of-low.ensures c.climb-p.ensures))
