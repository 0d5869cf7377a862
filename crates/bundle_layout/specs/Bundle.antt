-- The bundle of document 01, over the count n of its files: 20 for a set.
use Rattle.std.specs.Prelude.{ℕ, zero, suc, ◌+◌, ◌*◌, Bool, true, false, cond, ◌&&◌, ◌||◌, List, [], ◌++◌, length, ltb, eqb}
use Rattle.parts.specs.Part.{part_of}
use Rattle.bundle_bytes.specs.Words.{word_at, word_of}
use Rattle.bundle_bytes.specs.Pieces.{joined, piece_start}
use Rattle.parts.specs.Files.{File, Left, Given, is_present, bytes_of}

-- ---- The layout
-- "a count .., then .. pairs of offset and length, 164 bytes in all"
unfoldable pub header_size : ℕ → ℕ
header_size n = 4 + 8 * n

unfoldable pub offset_at : List ℕ → ℕ → ℕ
offset_at s k = word_at s (4 + 8 * k)

unfoldable pub length_at : List ℕ → ℕ → ℕ
length_at s k = word_at s (8 + 8 * k)

-- "Offset 0 and length 0: the file is omitted."
unfoldable pub is_omitted : List ℕ → ℕ → Bool
is_omitted s k = eqb (offset_at s k) 0 && eqb (length_at s k) 0

-- "164 plus the lengths of all earlier present files"; the length of an omitted one is 0
unfoldable pub end_of : ℕ → List ℕ → ℕ → ℕ
end_of n s zero = header_size n
end_of n s (suc k) = end_of n s k + length_at s k

unfoldable pub stands_right : ℕ → List ℕ → ℕ → Bool
stands_right n s k = is_omitted s k || eqb (offset_at s k) (end_of n s k)

-- the files from number k on, j of them, and "The bundle ends where the last present file ends."
unfoldable pub laid_out_from : ℕ → List ℕ → ℕ → ℕ → Bool
laid_out_from n s zero k = eqb (end_of n s k) (length s)
laid_out_from n s (suc j) k = elim (stands_right n s k) [ true ↦ laid_out_from n s j (suc k) | false ↦ false ]

unfoldable pub laid_out : ℕ → List ℕ → Bool
laid_out n s = laid_out_from n s n 0

-- refusals 1 to 3, and 0 for none
unfoldable pub bundle_fault : ℕ → List ℕ → ℕ
bundle_fault n s =
    cond (ltb (length s) (header_size n) || ltb 1048576 (length s)) 1
    (cond (eqb (word_at s 0) n) (cond (laid_out n s) 0 3) 2)

-- ---- The files of a bundle
-- "that part of the bundle itself"; offset 0 and length 0 give the empty part
unfoldable pub part_at : List ℕ → ℕ → List ℕ
part_at s k = part_of s (offset_at s k) (offset_at s k + length_at s k)

unfoldable pub file_at : List ℕ → ℕ → File
file_at s k = cond (is_omitted s k) Left (Given (part_at s k))

-- a file asked for by number: refusals 1 to 4, and 0 for none
unfoldable pub lookup_fault : ℕ → List ℕ → ℕ → ℕ
lookup_fault n s k = cond (eqb (bundle_fault n s) 0) (cond (ltb k n) 0 4) (bundle_fault n s)

-- "an omitted file or a refusal (1 to 4) gives an empty part, and a call beside it says which of the three it is"
unfoldable pub part_asked : ℕ → List ℕ → ℕ → List ℕ
part_asked n s k = cond (eqb (lookup_fault n s k) 0) (bytes_of (file_at s k)) []

-- ---- The bundle of files
unfoldable pub pieces_of : (ℕ → File) → ℕ → List ℕ
pieces_of files k = bytes_of (files k)

unfoldable pub header_pair : ℕ → (ℕ → File) → ℕ → List ℕ
header_pair n files k =
    cond (is_present (files k)) (word_of (header_size n + piece_start (pieces_of files) k) ++ word_of (length (bytes_of (files k))))
    (word_of 0 ++ word_of 0)

unfoldable pub header_of : ℕ → (ℕ → File) → List ℕ
header_of n files = word_of n ++ joined (header_pair n files) n

unfoldable pub bundle_of : ℕ → (ℕ → File) → List ℕ
bundle_of n files = header_of n files ++ joined (pieces_of files) n

-- its length
unfoldable pub bundle_length : ℕ → (ℕ → File) → ℕ
bundle_length n files = header_size n + piece_start (pieces_of files) n
