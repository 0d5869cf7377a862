-- `element_sums::sum_listed` meets its contract: the sum so far is that over the records passed, and near enough to zero to be held.
-- Assumes nothing.
use Prim.Native.Nat.{ℕ, ◌*◌, ◌-◌, ◌≤◌}
use mathlib.Core.Path.{◌≡◌, refl, ◌∙◌}
use native.Mathlib.Omega.{arith}
use mir.Syntax.{w64}
use mir.Val.{to_z}
use Rattle.exact_sums.specs.Sums.{sum_to}
use Rattle.exact_sums.proofs.Signed.{held-sum, sum-read}
use Rattle.amount.specs.Amount.{largest_amount}
use Rattle.element_sums.specs.Listed.{sum_listed}
use Rattle.element_sums.proofs.Laws.{record-adds, record-passes, near-so-far, amount-near-by}
use Rattle.element_sums.proofs.sum_listed.Goals as goal
use Rattle.element_sums.proofs.sum_listed.Goals.{then-listed-element, else-listed-element}

the_end : (r n : ℕ) → n ≤ r → r ≤ n → r ≡ n
the_end r n h l = omega arith

pub loop-r-init : goal.loop-r-init
unfolding sum_to
loop-r-init c = refl

pub overflow_add-sum : goal.overflow_add-sum
overflow_add-sum c = held-sum (to_z w64 c.loop-r.sum-bits) c.amount_in-sum.result (c.loop-r.r * largest_amount) largest_amount (near-so-far _ _ _ _ _ c.loop-r.invariant) (amount-near-by _ _ _ c.amount_in-sum.ensures) (omega arith)

pub loop-r-preserved : goal.loop-r-preserved
loop-r-preserved c = elim c.if-listed-element.branch [
  | then-listed-element w ↦ w.sum-is ∙ sum-read (to_z w64 c.loop-r.sum-bits) w.amount_in-sum.result (c.loop-r.r * largest_amount) largest_amount (near-so-far _ _ _ _ _ c.loop-r.invariant) (amount-near-by _ _ _ w.amount_in-sum.ensures) (omega arith) ∙ record-adds _ _ _ _ _ c.loop-r.invariant w.if-listed-element.true w.amount_in-sum.ensures
  | else-listed-element w ↦ w.sum-is ∙ record-passes _ _ _ _ _ c.loop-r.invariant w.if-listed-element.false
]

pub returns : goal.returns
unfolding sum_listed
returns c = c.loop-r.invariant ∙ rw (the_end _ _ c.loop-r-test.false c.loop-r.auto.r-end)
