-- `rules::typed_parents` meets its contract: both ways answer the rule.
use Prim.Native.Nat.{ℕ}
use mathlib.Core.Path.{sym}
use native.Mathlib.Omega.{arith}
use lib.ListN.{length-replicate}
use lib.Seq.{length-take-le}
use Rattle.rules.proofs.typed_parents.Goals as goal

pub slice_bounds-parent_type_rule_in-end : goal.slice_bounds-parent_type_rule_in-end
slice_bounds-parent_type_rule_in-end c = sym (length-take-le _ _ (omega (arith, length-replicate {A = ℕ} 4096 0)))

pub slice_bounds-parent_type_rule_in-end-2 : goal.slice_bounds-parent_type_rule_in-end-2
slice_bounds-parent_type_rule_in-end-2 c = sym (length-take-le _ _ (omega (arith, length-replicate {A = ℕ} 4096 0)))

pub slice_bounds-parent_type_rule_in-end-3 : goal.slice_bounds-parent_type_rule_in-end-3
slice_bounds-parent_type_rule_in-end-3 c = sym (length-take-le _ _ (omega (arith, length-replicate {A = ℕ} 4096 0)))
