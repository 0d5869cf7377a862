-- What the calls on a bundle answer, by the definitions of its layout and of a change.
use Rattle.std.specs.Prelude.{ℕ, cond, List, eqb}
use Rattle.parts.specs.Files.{File}
use Rattle.bundle_layout.specs.Bundle.{is_omitted, lookup_fault, bundle_length}
use Rattle.bundle_layout.specs.Change.{files_after, try_fault, make_fault}
use Rattle.bundle.specs.declared.FileState.{FileState}
use Rattle.bundle.specs.declared.FileState.TheVariants.{Present, Omitted, Refused}
use Rattle.bundle.specs.declared.Made.{Made}

-- "a call beside it says which of the three it is"
unfoldable pub state_asked : ℕ → List ℕ → ℕ → FileState
state_asked n s k =
    cond (eqb (lookup_fault n s k) 0) (cond (is_omitted s k) Omitted Present) (Refused (lookup_fault n s k))

-- the refusal, or the length of the new bundle
unfoldable pub change_of : ℕ → ℕ → Made
change_of refusal length = record { refusal = refusal; length = cond (eqb refusal 0) length 0 }

unfoldable pub tried_bundle : ℕ → List ℕ → ℕ → File → Made
tried_bundle n s k f = change_of (try_fault n s k f) (bundle_length n (files_after s k f))

unfoldable pub made_bundle : ℕ → List ℕ → ℕ → File → ℕ → Made
made_bundle n s k f room = change_of (make_fault n s k f room) (bundle_length n (files_after s k f))
