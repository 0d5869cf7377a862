-- Where the files of a set stand. The gate judges files by this and by the slices that are lent to it; it knows nothing of
-- bundles, and of a change only which file it is of. Document 01: "a file is read as a part of the bundle or of the new bytes, never a copy."
use Rattle.std.specs.Prelude.{ℕ, ◌+◌, ◌*◌, Bool, cond, not, List, length, get_or, set, leb, eqb}
use Rattle.parts.specs.Part.{part_of}
use Rattle.parts.specs.Files.{File, Left, Given}

-- three numbers a file: which slice holds it (1, 2 or 3; 0 where the file is not there), from where, and up to where
unfoldable pub number_of : List ℕ → ℕ → ℕ → ℕ
number_of stand k j = get_or stand (3 * k + j) 0

unfoldable pub slice_of : List ℕ → List ℕ → List ℕ → ℕ → List ℕ
slice_of a b c which = cond (eqb which 1) a (cond (eqb which 2) b c)

unfoldable pub is_there : List ℕ → ℕ → Bool
is_there stand k = not (eqb (number_of stand k 0) 0)

-- file k of the set, from the three slices
unfoldable pub standing : List ℕ → List ℕ → List ℕ → List ℕ → ℕ → File
standing a b c stand k =
    cond (is_there stand k) (Given (part_of (slice_of a b c (number_of stand k 0)) (number_of stand k 1) (number_of stand k 2))) Left

-- where it starts in its slice; 0 where the slice ends before that
unfoldable pub start_standing : List ℕ → List ℕ → List ℕ → List ℕ → ℕ → ℕ
start_standing a b c stand k =
    cond (leb (number_of stand k 1) (length (slice_of a b c (number_of stand k 0)))) (number_of stand k 1) 0

-- the list with file k put somewhere
unfoldable pub standing_with : List ℕ → ℕ → ℕ → ℕ → ℕ → List ℕ
standing_with stand k which from to = set (set (set stand (3 * k) which) (3 * k + 1) from) (3 * k + 2) to
