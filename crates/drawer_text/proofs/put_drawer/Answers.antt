-- `drawer_text::put_drawer` meets its contract.
-- Assumes nothing.
use Prim.Native.Nat.{ℕ}
use mathlib.Core.Path.{ap, ◌∙◌}
use mathlib.Core.Bool.{true, false}
use lib.ListN.{length-replicate}
use Rattle.drawer_layout.specs.Places.{list_of}
use Rattle.drawer_held.specs.Drawer.{header_number}
use Rattle.drawer_held.proofs.Laws.{offsets-read, lengths_read}
use Rattle.drawer_text.proofs.Puts.{drawer-apart, drawer-put}
use Rattle.drawer_text.proofs.put_drawer.Goals as goal

pub put_gaps-free-requires : goal.put_gaps-free-requires
put_gaps-free-requires c = drawer-apart _ (offsets-read 20 _ (c.read_numbers.ensures ∙ ap (list_of (header_number _ false)) (length-replicate {A = ℕ} 20 0))) (lengths_read 20 _ (c.read_numbers-2.ensures ∙ ap (list_of (header_number _ true)) (length-replicate {A = ℕ} 20 0))) c.requires

pub returns : goal.returns
returns c = drawer-put _ _ (offsets-read 20 _ (c.read_numbers.ensures ∙ ap (list_of (header_number _ false)) (length-replicate {A = ℕ} 20 0))) (lengths_read 20 _ (c.read_numbers-2.ensures ∙ ap (list_of (header_number _ true)) (length-replicate {A = ℕ} 20 0))) c.put_all_held-gaps.ensures c.put_gaps-free.ensures c.put_free.ensures
