-- What does not hold in a drawer, computed in the smallest cases.
-- Assumes nothing.
use Prim.Native.Nat.{ℕ}
use mathlib.Core.Path.{◌≡◌, refl}
use mathlib.Core.Bool.{Bool, true}
use mathlib.Core.List.{List, [], ◌∷◌, ◌++◌}
use lib.ListN.{replicate}
use Rattle.parts.specs.Part.{part_of}
use Rattle.parts.specs.Files.{Given, is_present, bytes_of}
use Rattle.bundle_bytes.specs.Words.{word_at, word_of}
use Rattle.bundle_bytes.specs.Pieces.{joined, piece_start, changed, written}
use Rattle.bundle_layout.specs.Bundle.{header_size, offset_at, length_at, is_omitted, part_at, file_at, pieces_of, bundle_length}
use Rattle.bundle_layout.specs.Change.{files_after}
use Rattle.drawer_layout.specs.Places.{share_byte, is_in_way, is_free, stands_inside, stand_apart, first_free, lowest_gap, total, comes_before, length_before, all_lengths, moved_to, list_of, places_moved_down, are_moved, new_place, placed}
use Rattle.drawer_moves.specs.Painted.{painted}
use Rattle.drawer_held.specs.Drawer.{offsets_of, lengths_of, drawer_fault, held_fault, drawer_change_fault, lengths_freed, lengths_after, places_after, entry_at, header_at, drawer_after, drawer_made}

-- one name opens all that is computed
unfoldable open-drawer : Bool
unfolding part_of is_present bytes_of word_at word_of joined piece_start changed written header_size offset_at length_at is_omitted part_at file_at pieces_of bundle_length files_after share_byte is_in_way is_free stands_inside stand_apart first_free lowest_gap total comes_before length_before all_lengths moved_to list_of places_moved_down are_moved new_place placed painted offsets_of lengths_of drawer_fault held_fault drawer_change_fault lengths_freed lengths_after places_after entry_at header_at drawer_after drawer_made
open-drawer = true

-- a drawer of files at these places, with these bytes behind its header
abbrev drawer : List ℕ → List ℕ → List ℕ → List ℕ
drawer offs lens bytes = header_at 20 offs lens ++ bytes

-- positions after an undoing: in `..AB..` file 0, `AB`, becomes `CD` and `AB` again; then it stands at 164 and no more at 166, and its
-- old bytes are left behind: `ABAB..`
pub other_place : drawer_made 20 (drawer_made 20 (drawer (166 ∷ replicate 19 0) (2 ∷ replicate 19 0) (46 ∷ 46 ∷ 65 ∷ 66 ∷ 46 ∷ 46 ∷ [])) 0 (Given (67 ∷ 68 ∷ []))) 0 (Given (65 ∷ 66 ∷ []))
    ≡ drawer (164 ∷ replicate 19 0) (2 ∷ replicate 19 0) (65 ∷ 66 ∷ 65 ∷ 66 ∷ 46 ∷ 46 ∷ [])
unfolding open-drawer
other_place = refl

-- positions after two changes: into a drawer with room for two bytes, `A` as file 0 and `B` as file 1
pub one-order : drawer_made 20 (drawer_made 20 (drawer (replicate 20 0) (replicate 20 0) (46 ∷ 46 ∷ [])) 0 (Given (65 ∷ []))) 1 (Given (66 ∷ []))
    ≡ drawer (164 ∷ 165 ∷ replicate 18 0) (1 ∷ 1 ∷ replicate 18 0) (65 ∷ 66 ∷ [])
unfolding open-drawer
one-order = refl

pub other-order : drawer_made 20 (drawer_made 20 (drawer (replicate 20 0) (replicate 20 0) (46 ∷ 46 ∷ [])) 1 (Given (66 ∷ []))) 0 (Given (65 ∷ []))
    ≡ drawer (165 ∷ 164 ∷ replicate 18 0) (1 ∷ 1 ∷ replicate 18 0) (66 ∷ 65 ∷ [])
unfolding open-drawer
other-order = refl

-- accepted in one order alone: a drawer of 165 bytes that file 2, `x`, fills. Emptied, it leaves room for `y` as file 4; before, there is none
abbrev full : List ℕ
full = drawer (0 ∷ 0 ∷ 164 ∷ replicate 17 0) (0 ∷ 0 ∷ 1 ∷ replicate 17 0) (120 ∷ [])

pub one-order-alone : drawer_change_fault 20 full 2 (Given []) ∷ drawer_change_fault 20 (drawer_made 20 full 2 (Given [])) 4 (Given (121 ∷ [])) ∷ drawer_change_fault 20 full 4 (Given (121 ∷ [])) ∷ [] ≡ 0 ∷ 0 ∷ 11 ∷ []
unfolding open-drawer
one-order-alone = refl
