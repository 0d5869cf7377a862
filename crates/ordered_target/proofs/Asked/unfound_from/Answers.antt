-- `ordered_target::Asked::unfound_from` meets its contract: its lists are fit for a table.
use Rattle.std.proofs.Common.{ℕ, sym, arith, length-take-le}
use lib.ListN.{length-replicate}
use Rattle.key_order.proofs.Lists.{fit-lists}
use Rattle.ordered_target.proofs.Asked.unfound_from.Goals as goal

pub slice_bounds-unfound_in_order-end : goal.slice_bounds-unfound_in_order-end
slice_bounds-unfound_in_order-end c = sym (length-take-le _ _ (omega (arith, length-replicate {A = ℕ} 4096 0)))

pub slice_bounds-unfound_in_order-end-2 : goal.slice_bounds-unfound_in_order-end-2
slice_bounds-unfound_in_order-end-2 c = sym (length-take-le _ _ (omega (arith, length-replicate {A = ℕ} 4096 0)))

pub slice_bounds-unfound_in_order-end-3 : goal.slice_bounds-unfound_in_order-end-3
slice_bounds-unfound_in_order-end-3 c = sym (length-take-le _ _ (omega (arith, length-replicate {A = ℕ} 4096 0)))

pub unfound_in_order-requires : goal.unfound_in_order-requires
unfound_in_order-requires c = (fit-lists _ _ _ _ c.requires (length-take-le _ _ (omega (arith, length-replicate {A = ℕ} 4096 0))) (length-take-le _ _ (omega (arith, length-replicate {A = ℕ} 4096 0))) (length-take-le _ _ (omega (arith, length-replicate {A = ℕ} 4096 0))), length-take-le _ _ (omega (arith, length-replicate {A = ℕ} 4096 0)))
