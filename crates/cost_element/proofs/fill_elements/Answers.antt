-- `cost_element::fill_elements` meets its contract: lists of its own hold the order of the resources.
-- Assumes nothing.
use Prim.Native.Nat.{ℕ}
use mathlib.Core.Path.{sym}
use native.Mathlib.Omega.{arith}
use lib.ListN.{length-replicate}
use borrow.Author.Rules.{rules}
use Rattle.key_order.proofs.Lists.{fit-lists}
use lib.Seq.{length-take-le}
use Rattle.cost_element.proofs.Laws.{elements-kept, elements-found}
use Rattle.cost_element.proofs.fill_elements.Goals as goal

pub returns-then-n-gt4096 : goal.returns-then-n-gt4096
returns-then-n-gt4096 c = let whole = elements-kept _ _ _ _ c.if-n-gt4096.true in record { value = whole.0; elements_after = whole.1 }

pub slice_bounds-fill_in_order-end-2 : goal.slice_bounds-fill_in_order-end-2
slice_bounds-fill_in_order-end-2 c = sym (length-take-le _ _ (omega (arith, length-replicate {A = ℕ} 4096 0)))

pub slice_bounds-fill_in_order-end-3 : goal.slice_bounds-fill_in_order-end-3
slice_bounds-fill_in_order-end-3 c = sym (length-take-le _ _ (omega (arith, length-replicate {A = ℕ} 4096 0)))

pub slice_bounds-fill_in_order-end-4 : goal.slice_bounds-fill_in_order-end-4
slice_bounds-fill_in_order-end-4 c = sym (length-take-le _ _ (omega (arith, length-replicate {A = ℕ} 4096 0)))

pub fill_in_order-requires : goal.fill_in_order-requires
fill_in_order-requires c = (search rules, fit-lists _ _ _ _ c.if-n-gt4096.false (length-take-le _ _ (omega (arith, length-replicate {A = ℕ} 4096 0))) (length-take-le _ _ (omega (arith, length-replicate {A = ℕ} 4096 0))) (length-take-le _ _ (omega (arith, length-replicate {A = ℕ} 4096 0))))

pub returns : goal.returns
returns c = let whole = elements-found _ _ _ _ c.fill_firsts.ensures _ _ _ (length-take-le _ _ (omega (arith, length-replicate {A = ℕ} 4096 0))) c.if-n-gt4096.false c.fill_in_order.ensures in record { value = whole.0; elements_after = whole.1 }
