-- `ordered_leaf::leaf_rule_in` meets its contract: what was picked out gives the rule's answer.
use Prim.Native.Nat.{ℕ}
use mathlib.Core.Path.{sym}
use native.Mathlib.Omega.{arith}
use lib.ListN.{length-replicate}
use lib.Seq.{length-take-le}
use Rattle.ordered_leaf.proofs.Laws.{fronts-fit, picked-gives-rule}
use Rattle.ordered_leaf.proofs.leaf_rule_in.Goals as goal

pub slice_bounds-first_naming-end : goal.slice_bounds-first_naming-end
slice_bounds-first_naming-end c = sym (length-take-le _ _ (omega (arith, c.pick_parents-n.auto)))

pub slice_bounds-first_naming-end-2 : goal.slice_bounds-first_naming-end-2
slice_bounds-first_naming-end-2 c = sym (length-take-le _ _ (omega (arith, length-replicate {A = ℕ} 4096 0)))

pub slice_bounds-first_naming-end-3 : goal.slice_bounds-first_naming-end-3
slice_bounds-first_naming-end-3 c = sym (length-take-le _ _ (omega (arith, length-replicate {A = ℕ} 4096 0)))

pub slice_bounds-first_naming-end-4 : goal.slice_bounds-first_naming-end-4
slice_bounds-first_naming-end-4 c = sym (length-take-le _ _ (omega (arith, length-replicate {A = ℕ} 4096 0)))

pub first_naming-requires : goal.first_naming-requires
first_naming-requires c = fronts-fit _ _ _ _ _ _ c.pick_parents-n.ensures.value.1 c.if-elements-gt4096.false c.pick_parents-n.auto.starts (length-replicate {A = ℕ} 4096 0) (length-replicate {A = ℕ} 4096 0) (length-replicate {A = ℕ} 4096 0)

pub returns : goal.returns
returns c = picked-gives-rule _ _ _ _ _ _ _ _ _ _ _ _ _ _ _ c.pick_parents-n.ensures.value c.if-elements-gt4096.false c.pick_parents-n.ensures.starts_after c.first_naming.ensures
