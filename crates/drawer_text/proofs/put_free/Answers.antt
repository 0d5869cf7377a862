-- `drawer_text::put_free` meets its contract.
-- Assumes nothing.
use Prim.Native.Nat.{ℕ}
use mathlib.Core.Path.{ap, ◌∙◌}
use mathlib.Core.Bool.{true}
use lib.ListN.{length-replicate}
use Rattle.json_bytes.specs.Ascii.{codes}
use Rattle.drawer_layout.specs.Places.{list_of}
use Rattle.drawer_held.specs.Drawer.{header_number}
use Rattle.drawer_held.proofs.Laws.{lengths_read}
use Rattle.drawer_text.proofs.Puts.{free-put}
use Rattle.drawer_text.proofs.put_free.Goals as goal

pub returns : goal.returns
unfolding codes
returns c = free-put _ _ (lengths_read 20 _ (c.read_numbers.ensures ∙ ap (list_of (header_number _ true)) (length-replicate {A = ℕ} 20 0))) c.all_lengths.ensures.0 c.less-free.ensures c.put_text-number.ensures c.put_ended-behind.ensures c.put_text-whole.ensures c.put_ended.ensures
