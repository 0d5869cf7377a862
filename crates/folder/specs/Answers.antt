-- What can be said of an answer, whatever stands outside.
use Rattle.std.specs.Prelude.{ℕ, ◌≤◌, ◌≡◌, ◌⊎◌, List, length, take}
use Rattle.bundle_layout.specs.Bundle.{bundle_fault}
use Rattle.folder.specs.declared.Found.{Found}
use Rattle.folder.specs.declared.Found.TheVariants.{Bytes, Nothing, Failed}

-- a file that was read into a buffer of that length
abbrev pub FoundWithin : Found → ℕ → Type 0
FoundWithin (Bytes n) most = n ≤ most
FoundWithin Nothing most = Unit {0}
FoundWithin Failed most = Unit {0}

-- no bundle, 0, or one of n files and of that length at the front of a buffer that is not refused
abbrev pub Bundled : ℕ → ℕ → List ℕ → Type 0
Bundled n r s = (r ≡ 0) ⊎ ((r ≤ length s) × (bundle_fault n (take r s) ≡ 0))
