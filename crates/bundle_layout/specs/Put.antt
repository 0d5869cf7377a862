-- A bundle's files put into another one, one at a time. Document 01: "Putting a bundle's present files one at a time, in any
-- order, into the bundle with none gives the same bytes again."
use Rattle.std.specs.Prelude.{ℕ, Bool, false, ◌||◌, List, [], ◌∷◌, eqb}
use Rattle.parts.specs.Files.{File, Left}
use Rattle.bundle_layout.specs.Bundle.{bundle_of}
use Rattle.bundle_layout.specs.Change.{files_after}

-- "the bundle with none"
unfoldable pub empty_bundle : ℕ → List ℕ
empty_bundle n = bundle_of n (λ i. Left)

-- bundle s with the files of these numbers changed to the given ones, each change made to the bundle that the last one gave
unfoldable pub put_all : ℕ → (ℕ → File) → List ℕ → List ℕ → List ℕ
put_all n files [] s = s
put_all n files (k ∷ order) s = put_all n files order (bundle_of n (files_after s k (files k)))

unfoldable pub is_listed : ℕ → List ℕ → Bool
is_listed k [] = false
is_listed k (j ∷ order) = eqb k j || is_listed k order
