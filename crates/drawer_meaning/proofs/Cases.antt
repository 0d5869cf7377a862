-- Cases of the readings, computed: a drawer of 170 bytes, `..AB..`, with file 0 at 166.
-- Assumes nothing.
use mathlib.Core.Path.{◌≡◌, refl}
use mathlib.Core.Bool.{true, false}
use mathlib.Core.List.{[], ◌∷◌}
use lib.ListN.{replicate, set}
use Rattle.bundle_layout.specs.Bundle.{header_size}
use Rattle.drawer_layout.specs.Places.{share_byte, is_in_way, is_free, stands_inside, stand_apart, first_free, lowest_gap, total, comes_before, length_before, all_lengths, moved_to, list_of, places_moved_down, are_moved, new_place, placed}

-- the replaced file frees its room first: `CD` goes to 164
pub replaced : placed 20 (166 ∷ replicate 19 0) (set (2 ∷ replicate 19 0) 0 0) 170 0 true 2 ≡ 164 ∷ replicate 19 0
unfolding header_size share_byte is_in_way is_free first_free lowest_gap total comes_before length_before all_lengths moved_to list_of places_moved_down are_moved new_place placed
replaced = refl

-- no gap is long enough for three bytes: file 0 is moved to 164, and file 1 follows; empty file 3 goes to 164
pub moved_down : placed 20 (166 ∷ 0 ∷ 0 ∷ 167 ∷ replicate 16 0) (2 ∷ 0 ∷ 0 ∷ 0 ∷ replicate 16 0) 170 1 true 3 ≡ 164 ∷ 166 ∷ 0 ∷ 164 ∷ replicate 16 0
unfolding header_size share_byte is_in_way is_free first_free lowest_gap total comes_before length_before all_lengths moved_to list_of places_moved_down are_moved new_place placed
moved_down = refl

-- the lowest gap, behind which an empty file stays where it is
pub in-gap : placed 20 (166 ∷ 0 ∷ 0 ∷ 167 ∷ replicate 16 0) (2 ∷ 0 ∷ 0 ∷ 0 ∷ replicate 16 0) 170 1 true 2 ≡ 166 ∷ 164 ∷ 0 ∷ 167 ∷ replicate 16 0
unfolding header_size share_byte is_in_way is_free first_free lowest_gap total comes_before length_before all_lengths moved_to list_of places_moved_down are_moved new_place placed
in-gap = refl

-- new bytes of length 0 go to 164, a withdrawn file has offset 0, and nothing is moved
pub empty-file : placed 20 (166 ∷ replicate 19 0) (2 ∷ replicate 19 0) 168 1 true 0 ≡ 166 ∷ 164 ∷ replicate 18 0
unfolding header_size share_byte is_in_way is_free first_free lowest_gap total comes_before length_before all_lengths moved_to list_of places_moved_down are_moved new_place placed
empty-file = refl

pub withdrawn : placed 20 (166 ∷ replicate 19 0) (set (2 ∷ replicate 19 0) 0 0) 170 0 false 0 ≡ 0 ∷ replicate 19 0
unfolding header_size share_byte is_in_way is_free first_free lowest_gap total comes_before length_before all_lengths moved_to list_of places_moved_down are_moved new_place placed
withdrawn = refl

-- a file of length 0 may stand at the end itself, and inside another; one byte further it may not
pub at-the-end : stand_apart 20 (166 ∷ 170 ∷ 167 ∷ replicate 17 0) (2 ∷ 0 ∷ 0 ∷ replicate 17 0) 170 20 ≡ true
unfolding header_size share_byte is_in_way is_free stands_inside stand_apart
at-the-end = refl

pub past_the_end : stand_apart 20 (171 ∷ replicate 19 0) (replicate 20 0) 170 20 ≡ false
unfolding header_size share_byte is_in_way is_free stands_inside stand_apart
past_the_end = refl

pub overlapping : stand_apart 20 (166 ∷ 167 ∷ replicate 18 0) (2 ∷ 1 ∷ replicate 18 0) 170 20 ≡ false
unfolding header_size share_byte is_in_way is_free stands_inside stand_apart
overlapping = refl
