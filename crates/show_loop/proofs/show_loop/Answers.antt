-- `show_loop::show_loop` meets its contract: its own workspace is long enough.
-- Assumes nothing.
use Prim.Native.Nat.{ℕ}
use native.Mathlib.Omega.{arith}
use lib.ListN.{length-replicate}
use Rattle.show_loop.proofs.Laws.{own-work}
use Rattle.show_loop.proofs.show_loop.Goals as goal

pub returns : goal.returns
returns c = own-work _ _ _ _ _ (omega (arith, length-replicate {A = ℕ} 40960 0)) c.show_loop_in.ensures
