-- A part that is handed back is what stands at its place.
-- Assumes nothing.
use Prim.Native.Nat.{ℕ, ◌+◌}
use mathlib.Core.Path.{◌≡◌, refl, sym, ◌∙◌}
use mathlib.Core.Bool.{Bool, true, false, cond}
use mathlib.Core.List.{List, []}
use native.Mathlib.Omega.{arith}
use native.Mathlib.Nat.{sub-zero, zero-add}
use lib.ListN.{length}
use lib.Seq.{take-length}
use lib.Dec.{eqb}
use Rattle.json_bytes.proofs.Laws.{by-test}
use Rattle.parts.specs.Part.{part_of}
use Rattle.parts.specs.Files.{File, bytes_of}
use Rattle.parts.proofs.Laws.{part-is}
use Rattle.bundle_bytes.specs.Pieces.{changed}
use Rattle.bundle_layout.specs.Bundle.{offset_at, length_at, is_omitted, lookup_fault, part_at, file_at, part_asked}
use Rattle.bundle_layout.specs.Change.{files_after}
use Rattle.bundle_layout.proofs.Laws.{omitted-offset, omitted-length}
use Rattle.drawer_held.specs.Drawer.{held_fault, part_held}
use Rattle.file_places.specs.Places.{stands_at, place_asked, place_held, place_after, in_new, in_bundle, standing_at, standing_after}

nothing-there : (s : List ℕ) → part_of s 0 0 ≡ []
nothing-there s = part-is s 0 0 (omega arith) (omega arith)

-- the header's own numbers are the place of a file, also of an omitted one
header-stands : (s : List ℕ) (k : ℕ) → bytes_of (file_at s k) ≡ part_of s (offset_at s k) (offset_at s k + length_at s k)
unfolding file_at part_at bytes_of
header-stands s k =
    by-test (λ f. bytes_of f ≡ part_of s (offset_at s k) (offset_at s k + length_at s k)) (is_omitted s k) _ _
    (λ e. rw (omitted-offset s k e, omitted-length s k e) (sym (nothing-there s)))
    (λ e. refl)

asked : (s : List ℕ) (k : ℕ) (t : Bool) → cond t (bytes_of (file_at s k)) [] ≡ part_of s (cond t (stands_at (offset_at s k) (length_at s k)) (stands_at 0 0)).start ((cond t (stands_at (offset_at s k) (length_at s k)) (stands_at 0 0)).start + (cond t (stands_at (offset_at s k) (length_at s k)) (stands_at 0 0)).length)
asked s k true = header-stands s k
asked s k false = sym (nothing-there s)

-- the part of a file asked for by number, in a bundle and in a drawer; nothing for a refusal
pub file-stands : (n : ℕ) (s : List ℕ) (k : ℕ) → part_asked n s k ≡ standing_at s (place_asked n s k)
unfolding part_asked place_asked standing_at
file-stands n s k = asked s k (eqb (lookup_fault n s k) 0)

pub held-stands : (n : ℕ) (d : List ℕ) (k : ℕ) → part_held n d k ≡ standing_at d (place_held n d k)
unfolding part_held place_held standing_at
held-stands n d k = asked d k (eqb (held_fault n d k) 0)

-- the part of a file after a change, of the new bytes or of the bundle
pub after-stands : (s : List ℕ) (k : ℕ) (f : File) (i : ℕ) → bytes_of (files_after s k f i) ≡ standing_after s (bytes_of f) (place_after s k f i)
unfolding files_after changed place_after standing_after
after-stands s k f i = by-change (eqb i k)
  where
    all_of : (bytes : List ℕ) → bytes ≡ part_of bytes 0 (length bytes)
    all_of bytes = sym (part-is bytes 0 (length bytes) (omega arith) (omega arith) ∙ rw (sub-zero (length bytes)) (take-length bytes))

    by-change : (t : Bool) → bytes_of (cond t f (file_at s i)) ≡ standing_after s (bytes_of f) (cond t (in_new f) (in_bundle s i))
    by-change true = rw (zero-add (length (bytes_of f))) (all_of (bytes_of f))
    by-change false = header-stands s i
