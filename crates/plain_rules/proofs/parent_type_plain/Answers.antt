-- `plain_rules::parent_type_plain` meets its contract: what the filled list gives is what the parents give.
use Prim.Native.Nat.{ℕ}
use mathlib.Core.Path.{sym, ◌∙◌}
use lib.ListN.{length-replicate}
use Rattle.rules.proofs.Laws.{parent-type-judged, parent-left}
use Rattle.plain_rules.proofs.parent_type_plain.Goals as goal

pub slice_bounds-fill_parents-end : goal.slice_bounds-fill_parents-end
slice_bounds-fill_parents-end c = sym (length-replicate {A = ℕ} 4096 0)

pub returns-then-fill_parents : goal.returns-then-fill_parents
returns-then-fill_parents c = parent-type-judged _ _ _ _ _ _ (sym c.fill_parents.ensures.value ∙ c.if-fill_parents.true) c.fill_parents.ensures.parents_after _ _ _ _ c.parent_type_rule-found.ensures

pub returns : goal.returns
returns c = parent-left _ _ _ (length-replicate {A = ℕ} 4096 0) (sym c.fill_parents.ensures.value ∙ c.if-fill_parents.false)
