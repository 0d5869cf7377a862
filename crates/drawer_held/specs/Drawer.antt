-- A drawer and a change of it: document 02, order 12. "Let a set stay in a drawer: the same header, but files may stand anywhere
-- from byte 164 to the drawer's end". Its numbers and its files are read as a bundle's are (`offset_at`, `length_at`, `file_at`).
use Rattle.std.specs.Prelude.{ℕ, Bool, cond, ◌||◌, List, [], ◌++◌, length, get_or, drop, set, ltb, eqb}
use Rattle.parts.specs.Files.{File, is_present, bytes_of}
use Rattle.bundle_bytes.specs.Words.{word_at, word_of}
use Rattle.bundle_bytes.specs.Pieces.{joined}
use Rattle.bundle_layout.specs.Bundle.{header_size, offset_at, length_at, is_omitted, file_at, pieces_of, bundle_length}
use Rattle.bundle_layout.specs.Change.{files_after}
use Rattle.bundle.specs.declared.FileState.{FileState}
use Rattle.bundle.specs.declared.FileState.TheVariants.{Present, Omitted, Refused}
use Rattle.drawer_layout.specs.Places.{stand_apart, list_of, placed}
use Rattle.drawer_moves.specs.Painted.{painted}

-- the numbers of the header, by file
unfoldable pub header_number : List ℕ → Bool → ℕ → ℕ
header_number d lengths i = cond lengths (length_at d i) (offset_at d i)

unfoldable pub offsets_of : ℕ → List ℕ → List ℕ
offsets_of n d = list_of (offset_at d) n

unfoldable pub lengths_of : ℕ → List ℕ → List ℕ
lengths_of n d = list_of (length_at d) n

-- ---- Refusals
-- 1 and 2 as of a bundle; "3 reads the drawer's layout"
unfoldable pub drawer_fault : ℕ → List ℕ → ℕ
drawer_fault n d =
    cond (ltb (length d) (header_size n) || ltb 1048576 (length d)) 1
    (cond (eqb (word_at d 0) n) (cond (stand_apart n (offsets_of n d) (lengths_of n d) (length d) n) 0 3) 2)

-- a file asked for by number: 1 to 4
unfoldable pub held_fault : ℕ → List ℕ → ℕ → ℕ
held_fault n d k = cond (eqb (drawer_fault n d) 0) (cond (ltb k n) 0 4) (drawer_fault n d)

-- its part of the drawer itself, empty for an omitted file and a refusal, and which of the three it is
unfoldable pub part_held : ℕ → List ℕ → ℕ → List ℕ
part_held n d k = cond (eqb (held_fault n d k) 0) (bytes_of (file_at d k)) []

unfoldable pub state_held : ℕ → List ℕ → ℕ → FileState
state_held n d k = cond (eqb (held_fault n d k) 0) (cond (is_omitted d k) Omitted Present) (Refused (held_fault n d k))

-- a change of file k to f: "refused for room exactly if the present lengths after it and 164 exceed the drawer", "11, no room,
-- takes the place of 5 and 6"
unfoldable pub drawer_change_fault : ℕ → List ℕ → ℕ → File → ℕ
drawer_change_fault n d k f =
    cond (eqb (held_fault n d k) 0) (cond (ltb (length d) (bundle_length n (files_after d k f))) 11 0) (held_fault n d k)

-- ---- The drawer after a change
-- "A replaced file frees its room before the new one is placed."
unfoldable pub lengths_freed : ℕ → List ℕ → ℕ → List ℕ
lengths_freed n d k = set (lengths_of n d) k 0

unfoldable pub lengths_after : ℕ → List ℕ → ℕ → File → List ℕ
lengths_after n d k f = set (lengths_freed n d k) k (length (bytes_of f))

unfoldable pub places_after : ℕ → List ℕ → ℕ → File → List ℕ
places_after n d k f = placed n (offsets_of n d) (lengths_freed n d k) (length d) k (is_present f) (length (bytes_of f))

-- the header of files at these places
unfoldable pub entry_at : List ℕ → List ℕ → ℕ → List ℕ
entry_at offs lens i = word_of (get_or offs i 0) ++ word_of (get_or lens i 0)

unfoldable pub header_at : ℕ → List ℕ → List ℕ → List ℕ
header_at n offs lens = word_of n ++ joined (entry_at offs lens) n

-- each file's bytes at its place, and the header; "Bytes outside the header and all files are as before the change."
unfoldable pub drawer_after : ℕ → List ℕ → ℕ → File → List ℕ
drawer_after n d k f =
    header_at n (places_after n d k f) (lengths_after n d k f) ++ drop (header_size n) (painted (pieces_of (files_after d k f)) (places_after n d k f) n d)

-- "with drawer and board untouched"
unfoldable pub drawer_made : ℕ → List ℕ → ℕ → File → List ℕ
drawer_made n d k f = cond (eqb (drawer_change_fault n d k f) 0) (drawer_after n d k f) d
