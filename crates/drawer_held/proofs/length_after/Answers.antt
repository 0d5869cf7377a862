-- `drawer_held::length_after` meets its contract.
use Prim.Native.Nat.{ℕ}
use mathlib.Core.Path.{ap, ◌∙◌}
use lib.ListN.{length-replicate}
use Rattle.drawer_layout.specs.Places.{list_of}
use Rattle.drawer_held.specs.Drawer.{header_number}
use mathlib.Core.Bool.{true}
use Rattle.drawer_held.proofs.Laws.{length-added, lengths_read}
use Rattle.drawer_held.proofs.length_after.Goals as goal

pub returns : goal.returns
returns c = length-added _ _ _ c.requires (lengths_read 20 _ (c.read_numbers.ensures ∙ ap (list_of (header_number _ true)) (length-replicate {A = ℕ} 20 0))) c.all_lengths.ensures.0 c.new_part.ensures
