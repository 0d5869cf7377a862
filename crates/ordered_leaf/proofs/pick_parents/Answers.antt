-- `ordered_leaf::pick_parents` meets its contract: the front of the list has what was picked out of the elements passed.
use mathlib.Core.Path.{refl, sym, ◌∙◌}
use native.Mathlib.Omega.{arith}
use Rattle.ordered_leaf.specs.Parents.{picked}
use Rattle.ordered_leaf.proofs.Laws.{pick_next, pick-passes, all-picked, picked-listed}
use Rattle.ordered_leaf.proofs.pick_parents.Goals as goal
use Rattle.ordered_leaf.proofs.pick_parents.Goals.{then-has_child, else-has_child}

pub loop-q-init : goal.loop-q-init
unfolding picked
loop-q-init c = (omega arith, refl, refl)

pub loop-q-preserved : goal.loop-q-preserved
loop-q-preserved c = elim c.if-has_child.branch [
  | then-has_child w ↦
      let z = pick_next _ _ _ _ _ _ c.loop-q.invariant.1 c.loop-q.invariant.2 (omega arith) (sym c.has_child.ensures ∙ w.if-has_child.true) w.start_cell.ensures in
      rw (w.n-is, w.starts-is) (omega arith, z.0, z.1)
  | else-has_child w ↦
      let z = pick-passes _ _ _ _ _ _ c.loop-q.invariant.1 c.loop-q.invariant.2 (sym c.has_child.ensures ∙ w.if-has_child.false) in
      rw (w.n-is, w.starts-is) (omega arith, z.0, z.1)
]

pub returns : goal.returns
returns c = record {
  value = all-picked _ _ _ _ _ _ c.loop-q.invariant.1 c.loop-q.invariant.2 c.loop-q-test.false (omega arith) c.loop-q.invariant.0;
  starts_after = picked-listed _ _ _ _ _ _ c.loop-q.invariant.1 c.loop-q.invariant.2 c.loop-q-test.false (omega arith);
}
