-- `drawer_bundles::held_length` meets its contract.
-- Assumes nothing.
use Prim.Native.Nat.{ℕ}
use mathlib.Core.Path.{ap, ◌∙◌}
use mathlib.Core.Bool.{true}
use lib.ListN.{length-replicate}
use Rattle.drawer_layout.specs.Places.{list_of}
use Rattle.drawer_held.specs.Drawer.{header_number}
use Rattle.drawer_held.proofs.Laws.{lengths_read}
use Rattle.drawer_bundles.proofs.Laws.{length-read}
use Rattle.drawer_bundles.proofs.held_length.Goals as goal

pub returns : goal.returns
returns c = length-read _ c.requires (lengths_read 20 _ (c.read_numbers.ensures ∙ ap (list_of (header_number _ true)) (length-replicate {A = ℕ} 20 0))) c.all_lengths.ensures.0
