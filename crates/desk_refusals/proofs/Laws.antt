-- The refusals of a desk, as the code comes to them.
-- Assumes nothing.
use Prim.Native.Nat.{ℕ, zero, suc, ◌+◌, ◌≤◌, ◌<◌}
use mathlib.Core.Path.{◌≡◌, sym, ap, ◌∙◌}
use mathlib.Core.Bool.{Bool, true, false, cond, not, ◌&&◌, ◌||◌, and-false}
use mathlib.Core.Logic.{⊎_elim}
use mathlib.Core.List.{List}
use native.Mathlib.Nat.{eq-or-lt_of_le}
use native.Mathlib.Numerals.{add-one}
use native.Mathlib.Omega.{arith}
use borrow.Author.Tests.{lt-ltb, le-ltb, le-leb, lt-leb, eq-eqb, ne_eqb}
use lib.Dec.{ltb, leb}
use Rattle.parts.specs.Files.{File, is_present}
use Rattle.bundle_layout.specs.Bundle.{is_omitted, bundle_fault, file_at, bundle_length}
use Rattle.bundle_layout.specs.Change.{files_after, try_fault, make_fault}
use Rattle.bundle.specs.declared.Made.{Made}
use Rattle.bundle.specs.Answers.{change_of, tried_bundle}
use Rattle.bundle.proofs.Laws.{shown-present}
use Rattle.desks_calls.specs.Join.{is_shared, may_hold, holds_only, or_else, join_fault, change_fault}
use Rattle.desks_calls.specs.Desks.{Sight, sight_fault, desk_fault}

-- ---- which files a bundle may hold
pub below-shared : (k : ℕ) → k < 6 → false ≡ is_shared k
unfolding is_shared
below-shared k l = rw (lt-leb 6 k l)

pub from-shared : (k : ℕ) → 6 ≤ k → leb k 8 ≡ is_shared k
unfolding is_shared
from-shared k l = rw (le-leb 6 k l)

module _ (s : List ℕ) (calendars : Bool) (k : ℕ) where
  pub omitted-well : is_omitted s k ≡ true → true ≡ (not (is_present (file_at s k)) || may_hold calendars k)
  omitted-well e = rw (← (shown-present s k), e)

  pub present-well : is_omitted s k ≡ false → may_hold calendars k ≡ (not (is_present (file_at s k)) || may_hold calendars k)
  present-well e = rw (← (shown-present s k), e)

module _ (calendars : Bool) (files : ℕ → File) where
  pub holds-next : (k : ℕ) → holds_only calendars files k ≡ true → (not (is_present (files k)) || may_hold calendars k) ≡ true → holds_only calendars files (k + 1) ≡ true
  unfolding holds_only
  holds-next k h e = rw (add-one k, h, e)

  pub holds_not : (n k : ℕ) → k < n → (not (is_present (files k)) || may_hold calendars k) ≡ false → false ≡ holds_only calendars files n
  unfolding holds_only
  holds_not zero k l e = absurd (omega arith)
  holds_not (suc n) k l e =
      ⊎_elim (λ q. rw (← q, e) (sym (and-false (holds_only calendars files k)))) (λ h. rw (← (holds_not n k h e))) (eq-or-lt_of_le {n = k} {m = n} (omega arith))

-- ---- by the bundles
module _ (n : ℕ) (desk shared : List ℕ) {own : ℕ} (own_is : own ≡ bundle_fault n desk) where
  pub own-refused : (own ≡ 0 → ⊥) → own ≡ join_fault n desk shared
  unfolding join_fault or_else
  own-refused m = rw (← own_is, ne_eqb own 0 m)

  module _ (own-fine : own ≡ 0) {common : ℕ} (common-is : common ≡ bundle_fault n shared) where
    pub common-refused : (common ≡ 0 → ⊥) → common ≡ join_fault n desk shared
    unfolding join_fault or_else
    common-refused m = rw (← own_is, eq-eqb own 0 own-fine, ← common-is, ne_eqb common 0 m)

    pub join-decided : common ≡ 0 → {t u : Bool} → holds_only false (file_at desk) n ≡ t → holds_only true (file_at shared) n ≡ u → cond (t && u) 0 9 ≡ join_fault n desk shared
    unfolding join_fault or_else
    join-decided z e q = rw (← own_is, eq-eqb own 0 own-fine, ← common-is, eq-eqb common 0 z, e, q)

-- ---- by a change
module _ (n : ℕ) (calendars : Bool) (s : List ℕ) (k : ℕ) (f : File) (room : ℕ) {barred : Bool} (barred-is : barred ≡ (ltb k n && not (may_hold calendars k))) where
  pub change-barred : barred ≡ true → 9 ≡ change_fault n calendars s k f room
  unfolding change_fault
  change-barred e = rw (← barred-is, e)

  module _ (free : barred ≡ false) where
    change-made : change_fault n calendars s k f room ≡ make_fault n s k f room
    unfolding change_fault
    change-made = rw (← barred-is, free)

    module _ (made : Made) (made-is : made ≡ tried_bundle n s k f) where
      refusal_is : made.refusal ≡ try_fault n s k f
      unfolding tried_bundle change_of
      refusal_is = ap (λ x. x.refusal) made-is

      pub change-tried : (made.refusal ≡ 0 → ⊥) → made.refusal ≡ change_fault n calendars s k f room
      unfolding make_fault
      change-tried m = rw (change-made, ← refusal_is, ne_eqb made.refusal 0 m)

      module _ (fine : made.refusal ≡ 0) where
        tried-fine : try_fault n s k f ≡ 0
        tried-fine = sym refusal_is ∙ fine

        length-is : made.length ≡ bundle_length n (files_after s k f)
        unfolding tried_bundle change_of
        length-is = ap (λ x. x.length) made-is ∙ rw (eq-eqb (try_fault n s k f) 0 tried-fine)

        pub change-short : room < made.length → 5 ≡ change_fault n calendars s k f room
        unfolding make_fault
        change-short l = rw (change-made, eq-eqb (try_fault n s k f) 0 tried-fine, ← length-is, lt-ltb room made.length l)

        pub change-fits : made.length ≤ room → 0 ≡ change_fault n calendars s k f room
        unfolding make_fault
        change-fits l = rw (change-made, eq-eqb (try_fault n s k f) 0 tried-fine, ← length-is, le-ltb room made.length l)

-- ---- of a desk
module _ (n : ℕ) (desk shared : List ℕ) (sight : Sight) {refusal : ℕ} (is : refusal ≡ join_fault n desk shared) where
  pub desk-refused : (refusal ≡ 0 → ⊥) → refusal ≡ desk_fault n desk shared sight
  unfolding desk_fault or_else
  desk-refused m = rw (← is, ne_eqb refusal 0 m)

  pub desk-seen : refusal ≡ 0 → {last : ℕ} → last ≡ sight_fault n desk shared sight → last ≡ desk_fault n desk shared sight
  unfolding desk_fault or_else
  desk-seen z e = e ∙ rw (← is, eq-eqb refusal 0 z)
