-- A change of a bundle: document 01, "make the change, which also writes the new bundle to an output".
use Rattle.std.specs.Prelude.{ℕ, cond, List, ◌++◌, length, drop, ltb, eqb}
use Rattle.bundle_bytes.specs.Pieces.{changed}
use Rattle.parts.specs.Files.{File}
use Rattle.bundle_layout.specs.Bundle.{lookup_fault, file_at, bundle_of, bundle_length}

-- the files as they stand after a change of file k
unfoldable pub files_after : List ℕ → ℕ → File → ℕ → File
files_after s k f = changed (file_at s) k f

-- the refusals of a change, "Order: 1, 2, 3, 4, 6, 5; trying a change can give 6 but never 5"
unfoldable pub try_fault : ℕ → List ℕ → ℕ → File → ℕ
try_fault n s k f =
    cond (eqb (lookup_fault n s k) 0) (cond (ltb 1048576 (bundle_length n (files_after s k f))) 6 0) (lookup_fault n s k)

unfoldable pub make_fault : ℕ → List ℕ → ℕ → File → ℕ → ℕ
make_fault n s k f room =
    cond (eqb (try_fault n s k f) 0) (cond (ltb room (bundle_length n (files_after s k f))) 5 0) (try_fault n s k f)

-- "After success the output starts with the new bundle and the rest of it is as before."
unfoldable pub output_of : ℕ → (ℕ → File) → List ℕ → List ℕ
output_of n files out = bundle_of n files ++ drop (bundle_length n files) out

unfoldable pub output : ℕ → List ℕ → ℕ → File → List ℕ → List ℕ
output n s k f out = cond (eqb (make_fault n s k f (length out)) 0) (output_of n (files_after s k f) out) out
