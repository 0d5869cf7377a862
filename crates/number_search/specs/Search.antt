-- Where a place is in a list in order, as the lookup of document 02, order 7, asks it of entries "ordered by sum and then
-- record". The place is told by a test, which those in front of it pass and no other does; of a number x by `below x`.
use Rattle.std.specs.Prelude.{ℕ, zero, suc, ◌+◌, ◌-◌, ◌/◌, Bool, true, false, List, length, get_or, ltb}
use Rattle.json_bytes.specs.Reads.{leading}

abbrev pub below : ℕ → ℕ → Bool
below x y = ltb y x

-- how many numbers that pass the test stand at the front
unfoldable pub front_of : (ℕ → Bool) → List ℕ → ℕ
front_of before l = leading before l

-- halfway between two places
unfoldable pub middle : ℕ → ℕ → ℕ
middle lo hi = lo + (hi - lo) / 2

-- where halving ends between two places, in as many turns as are given: on behind a number that passes, and back before any
-- other. In a list in order that is front_of (the law search-ordered); in any other list it is some place all the same.
unfoldable pub search_from : ℕ → (ℕ → Bool) → List ℕ → ℕ → ℕ → ℕ
search_from zero before l lo hi = lo
search_from (suc f) before l lo hi =
    elim (ltb lo hi) [ true ↦ elim (before (get_or l (middle lo hi) 0)) [ true ↦ search_from f before l (middle lo hi + 1) hi | false ↦ search_from f before l lo (middle lo hi) ] | false ↦ lo ]

unfoldable pub searched : (ℕ → Bool) → List ℕ → ℕ
searched before l = search_from (length l) before l 0 (length l)
