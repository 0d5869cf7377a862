-- Where the files of a drawer may stand, and where a change puts them: document 02, order 12. The offsets and the lengths of
-- the files are two lists in the order of the files' numbers, as the header has them; n is how many files there are.
use Rattle.std.specs.Prelude.{ℕ, zero, suc, ◌+◌, ◌-◌, Bool, true, cond, not, ◌&&◌, ◌||◌, List, [], ◌∷◌, ◌++◌, get_or, set, ltb, leb, eqb}
use Rattle.bundle_layout.specs.Bundle.{header_size}

-- ---- The layout
-- "with no byte in two of them; one of length 0 holds no byte": whether m bytes from p on and l bytes from q on have one in common
unfoldable pub share_byte : ℕ → ℕ → ℕ → ℕ → Bool
share_byte p m q l = (ltb 0 m && ltb 0 l) && (ltb q (p + m) && ltb p (q + l))

-- whether file i has one of the m bytes from p on
unfoldable pub is_in_way : List ℕ → List ℕ → ℕ → ℕ → ℕ → Bool
is_in_way offs lens p m i = share_byte p m (get_or offs i 0) (get_or lens i 0)

-- whether none of the first i files has
unfoldable pub is_free : List ℕ → List ℕ → ℕ → ℕ → ℕ → Bool
is_free offs lens p m zero = true
is_free offs lens p m (suc i) = is_free offs lens p m i && not (is_in_way offs lens p m i)

-- "files may stand anywhere from byte 164 to the drawer's end"; "Offset 0 and length 0: the file is omitted."
unfoldable pub stands_inside : ℕ → ℕ → ℕ → ℕ → Bool
stands_inside n room o l = (eqb o 0 && eqb l 0) || (leb (header_size n) o && leb (o + l) room)

-- the first i files stand inside a drawer of so many bytes, and each apart from those before it
unfoldable pub stand_apart : ℕ → List ℕ → List ℕ → ℕ → ℕ → Bool
stand_apart n offs lens room zero = true
stand_apart n offs lens room (suc i) =
    stand_apart n offs lens room i && (stands_inside n room (get_or offs i 0) (get_or lens i 0) && is_free offs lens (get_or offs i 0) (get_or lens i 0) i)

-- ---- The lowest gap
-- the first of so many places from p on at which m bytes are free, and 0 where there is none
unfoldable pub first_free : ℕ → List ℕ → List ℕ → ℕ → ℕ → ℕ → ℕ
first_free n offs lens m zero p = 0
first_free n offs lens m (suc places) p = cond (is_free offs lens p m n) p (first_free n offs lens m places (suc p))

-- "the lowest gap that is long enough": the places from byte 164 on from which m bytes do not run past the drawer's end
unfoldable pub lowest_gap : ℕ → List ℕ → List ℕ → ℕ → ℕ → ℕ
lowest_gap n offs lens room m = first_free n offs lens m (room + 1 - (header_size n + m)) (header_size n)

-- ---- Files moved down
unfoldable pub total : (ℕ → ℕ) → ℕ → ℕ
total h zero = 0
total h (suc n) = total h n + h n

-- "in order of offset, then file number": whether file j comes before file i
unfoldable pub comes_before : List ℕ → ℕ → ℕ → Bool
comes_before offs j i = ltb (get_or offs j 0) (get_or offs i 0) || (eqb (get_or offs j 0) (get_or offs i 0) && ltb j i)

-- the lengths of all that come before file i, and of all files
unfoldable pub length_before : ℕ → List ℕ → List ℕ → ℕ → ℕ
length_before n offs lens i = total (λ j. cond (comes_before offs j i) (get_or lens j 0) 0) n

unfoldable pub all_lengths : ℕ → List ℕ → ℕ
all_lengths n lens = total (λ j. get_or lens j 0) n

-- where a file goes: behind all that come before it; "A file of length 0, new or moved, goes to byte 164."; an omitted one keeps its offset 0
unfoldable pub moved_to : ℕ → List ℕ → List ℕ → ℕ → ℕ
moved_to n offs lens i =
    cond (eqb (get_or offs i 0) 0) 0 (cond (eqb (get_or lens i 0) 0) (header_size n) (header_size n + length_before n offs lens i))

unfoldable pub list_of : (ℕ → ℕ) → ℕ → List ℕ
list_of h zero = []
list_of h (suc n) = list_of h n ++ (h n ∷ [])

unfoldable pub places_moved_down : ℕ → List ℕ → List ℕ → List ℕ
places_moved_down n offs lens = list_of (moved_to n offs lens) n

-- ---- The places after a change of file k, to m bytes or, where it is not present, to none. `lens` has length 0 for file k:
-- "A replaced file frees its room before the new one is placed."
-- "if there is none, the files are moved down": whether they are
unfoldable pub are_moved : ℕ → List ℕ → List ℕ → ℕ → Bool → ℕ → Bool
are_moved n offs lens room present m = present && (not (eqb m 0) && eqb (lowest_gap n offs lens room m) 0)

-- "New bytes go to the lowest gap that is long enough; if there is none, .. the new bytes follow."
unfoldable pub new_place : ℕ → List ℕ → List ℕ → ℕ → Bool → ℕ → ℕ
new_place n offs lens room present m =
    cond present
    (cond (eqb m 0) (header_size n)
    (cond (eqb (lowest_gap n offs lens room m) 0) (header_size n + all_lengths n lens) (lowest_gap n offs lens room m))) 0

unfoldable pub placed : ℕ → List ℕ → List ℕ → ℕ → ℕ → Bool → ℕ → List ℕ
placed n offs lens room k present m =
    set (cond (are_moved n offs lens room present m) (places_moved_down n offs lens) offs) k (new_place n offs lens room present m)
