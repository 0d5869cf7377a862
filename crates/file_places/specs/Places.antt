-- Where a part stands that a call hands back. Document 01: "A file asked for by number is handed back as that part of the bundle
-- itself", and while a change is tried "a file is read as a part of the bundle or of the new bytes, never a copy".
use Rattle.std.specs.Prelude.{ℕ, ◌+◌, true, false, cond, List, length, eqb}
use Rattle.parts.specs.Part.{part_of}
use Rattle.parts.specs.Files.{File, bytes_of}
use Rattle.bundle_layout.specs.Bundle.{offset_at, length_at, lookup_fault}
use Rattle.drawer_held.specs.Drawer.{held_fault}
use Rattle.file_places.specs.declared.PartPlace.{PartPlace}
use Rattle.file_places.specs.declared.PartAfter.{PartAfter}

abbrev pub stands_at : ℕ → ℕ → PartPlace
stands_at start length = record { start = start; length = length }

-- "an omitted file or a refusal (1 to 4) gives an empty part"; an omitted one has offset 0 and length 0
unfoldable pub place_asked : ℕ → List ℕ → ℕ → PartPlace
place_asked n s k = cond (eqb (lookup_fault n s k) 0) (stands_at (offset_at s k) (length_at s k)) (stands_at 0 0)

unfoldable pub place_held : ℕ → List ℕ → ℕ → PartPlace
place_held n d k = cond (eqb (held_fault n d k) 0) (stands_at (offset_at d k) (length_at d k)) (stands_at 0 0)

-- of file i after a change of file k: the changed one is all of the new bytes, every other stands in the bundle
abbrev pub in_new : File → PartAfter
in_new f = record { changed = true; start = 0; length = length (bytes_of f) }

abbrev pub in_bundle : List ℕ → ℕ → PartAfter
in_bundle s i = record { changed = false; start = offset_at s i; length = length_at s i }

unfoldable pub place_after : List ℕ → ℕ → File → ℕ → PartAfter
place_after s k f i = cond (eqb i k) (in_new f) (in_bundle s i)

-- ---- What stands there
unfoldable pub standing_at : List ℕ → PartPlace → List ℕ
standing_at s p = part_of s p.start (p.start + p.length)

unfoldable pub standing_after : List ℕ → List ℕ → PartAfter → List ℕ
standing_after s new p = part_of (cond p.changed new s) p.start (p.start + p.length)
