-- `link_classes::fill_classes` meets its contract: lists of its own hold the order of the links.
-- Assumes nothing.
use Prim.Native.Nat.{ℕ}
use mathlib.Core.Path.{sym}
use native.Mathlib.Omega.{arith}
use lib.ListN.{length-replicate}
use lib.Seq.{length-take-le}
use Rattle.key_order.proofs.Lists.{fit-lists}
use Rattle.link_classes.proofs.Columns.{columns-filled}
use Rattle.link_classes.proofs.fill_classes.Goals as goal

pub fill_in_order-requires : goal.fill_in_order-requires
fill_in_order-requires c = fit-lists _ _ _ _ (omega arith) (length-take-le _ _ (omega (arith, length-replicate {A = ℕ} 4096 0))) (length-take-le _ _ (omega (arith, length-replicate {A = ℕ} 4096 0))) (length-take-le _ _ (omega (arith, length-replicate {A = ℕ} 4096 0)))

pub returns : goal.returns
returns c = columns-filled _ _ _ _ _ _ (omega arith) c.if-to-n.false (length-take-le _ _ (omega (arith, length-replicate {A = ℕ} 4096 0))) c.fill_in_order.ensures.from_after c.fill_in_order.ensures.to_after
