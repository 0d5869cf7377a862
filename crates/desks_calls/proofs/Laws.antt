-- What it takes that a desk is not refused, and the joined set after a change.
-- Assumes nothing.
use Prim.Native.Nat.{ℕ, zero, suc, ◌<◌}
use mathlib.Core.Path.{◌≡◌, refl, sym, ap, ◌∙◌}
use mathlib.Core.Bool.{Bool, true, false, cond, not, ◌&&◌, ◌||◌, or-true, true≢false}
use mathlib.Core.List.{List}
use native.Mathlib.Omega.{arith}
use borrow.Author.Tests.{lt-ltb, eq-eqb, ne_eqb, eqb-true, eqb-false, not-true}
use lib.Dec.{ltb, eqb}
use Rattle.json_bytes.proofs.Laws.{both_left, both_right}
use Rattle.parts.specs.Files.{File, is_present}
use Rattle.bundle_bytes.specs.Pieces.{changed}
use Rattle.bundle_bytes.proofs.Laws.{changed-miss}
use Rattle.bundle_layout.specs.Bundle.{bundle_fault, file_at, bundle_of}
use Rattle.bundle_layout.specs.Change.{files_after, try_fault, make_fault}
use Rattle.bundle_layout.proofs.Laws.{try-none, make-none}
use Rattle.bundle_layout.proofs.RoundTrip.{after-change}
use Rattle.desks_calls.specs.Join.{is_shared, may_hold, holds_only, joined_set, or_else, join_fault, change_fault}
use Rattle.desks_calls.specs.Desks.{Sight, sight_fault, desk_fault}

-- ---- no refusal
module _ (first second : ℕ) where
  pub either-none : or_else first second ≡ 0 → (first ≡ 0) × (second ≡ 0)
  unfolding or_else
  either-none e = go (eqb first 0) refl e
    where
      go : (t : Bool) → eqb first 0 ≡ t → cond t second first ≡ 0 → (first ≡ 0) × (second ≡ 0)
      go true q e = (eqb-true first 0 q, e)
      go false q e = absurd (eqb-false first 0 q e)

  pub first_some : (first ≡ 0 → ⊥) → or_else first second ≡ first
  unfolding or_else
  first_some n = rw (ne_eqb first 0 n)

  pub first-none : first ≡ 0 → or_else first second ≡ second
  unfolding or_else
  first-none z = rw (eq-eqb first 0 z)

both-fine : (t u : Bool) → ◌≡◌ {A = ℕ} (cond (t && u) 0 9) 0 → (t ≡ true) × (u ≡ true)
both-fine true true e = (refl, refl)
both-fine true false e = absurd (omega (arith, e))
both-fine false u e = absurd (omega (arith, e))

pub record Joined (n : ℕ) (desk shared : List ℕ) : Type 0 where
  pub own : bundle_fault n desk ≡ 0
  pub common : bundle_fault n shared ≡ 0
  pub own-only : holds_only false (file_at desk) n ≡ true
  pub common-only : holds_only true (file_at shared) n ≡ true

module _ (n : ℕ) (desk shared : List ℕ) where
  pub join-none : join_fault n desk shared ≡ 0 → Joined n desk shared
  unfolding join_fault
  join-none e =
      let p = either-none (bundle_fault n desk) _ e in
      let q = either-none (bundle_fault n shared) _ p.1 in
      let h = both-fine (holds_only false (file_at desk) n) (holds_only true (file_at shared) n) q.1 in
      record { own = p.0; common = q.0; own-only = h.0; common-only = h.1 }

  pub join-fine : Joined n desk shared → join_fault n desk shared ≡ 0
  unfolding join_fault
  join-fine j =
      first-none (bundle_fault n desk) _ j.own ∙ first-none (bundle_fault n shared) _ j.common ∙ rw (j.own-only, j.common-only)

  pub desk-none : (sight : Sight) → desk_fault n desk shared sight ≡ 0 → (join_fault n desk shared ≡ 0) × (sight_fault n desk shared sight ≡ 0)
  unfolding desk_fault
  desk-none sight e = either-none (join_fault n desk shared) (sight_fault n desk shared sight) e

module _ (n : ℕ) (calendars : Bool) (s : List ℕ) (k : ℕ) (f : File) (room : ℕ) where
  pub change-none : change_fault n calendars s k f room ≡ 0 → (may_hold calendars k ≡ true) × (make_fault n s k f room ≡ 0)
  unfolding change_fault
  change-none e = go (ltb k n && not (may_hold calendars k)) refl e
    where
      held : (t u : Bool) → (t && not u) ≡ false → t ≡ true → u ≡ true
      held t true q l = refl
      held true false q l = sym q
      held false false q l = l

      go : (t : Bool) → (ltb k n && not (may_hold calendars k)) ≡ t → cond t 9 (make_fault n s k f room) ≡ 0 → (may_hold calendars k ≡ true) × (make_fault n s k f room ≡ 0)
      go true q e = absurd (omega (arith, e))
      go false q e =
          (held (ltb k n) (may_hold calendars k) q (lt-ltb k n (try-none n s k f (make-none n s k f room e).0).1), e)

-- ---- what a bundle holds, by its files
module _ (calendars : Bool) where
  pub holds_same : (n : ℕ) (files others : ℕ → File) → ((i : ℕ) → i < n → files i ≡ others i) → holds_only calendars files n ≡ holds_only calendars others n
  unfolding holds_only
  holds_same zero files others same = refl
  holds_same (suc n) files others same =
      rw (holds_same n files others (λ i l. same i (omega arith)), same n (omega arith))

  -- a file that it may hold changes nothing
  pub holds-changed : (n : ℕ) (files : ℕ → File) (k : ℕ) (f : File) → may_hold calendars k ≡ true → holds_only calendars files n ≡ true → holds_only calendars (changed files k f) n ≡ true
  unfolding holds_only
  holds-changed zero files k f may h = refl
  holds-changed (suc n) files k f may h =
      rw (holds-changed n files k f may (both_left (holds_only calendars files n) _ h)) (go (eqb n k) refl)
    where
      go : (t : Bool) → eqb n k ≡ t → (not (is_present (changed files k f n)) || may_hold calendars n) ≡ true
      go true q = rw (eqb-true n k q, may) (or-true (not (is_present (changed files k f k))))
      go false q = rw (changed-miss files k f n q) (both_right (holds_only calendars files n) _ h)

-- ---- a change that is not refused, of a bundle that holds what it may: the new bundle is fine, and holds what it may
module _ (n : ℕ) (calendars : Bool) (s : List ℕ) (k : ℕ) (f : File) (room : ℕ) (fine : change_fault n calendars s k f room ≡ 0) where
  pub may : may_hold calendars k ≡ true
  may = (change-none n calendars s k f room fine).0

  tries : try_fault n s k f ≡ 0
  tries = (make-none n s k f room (change-none n calendars s k f room fine).1).0

  pub changed-file : k < n
  changed-file = (try-none n s k f tries).1

  pub new-fine : bundle_fault n (bundle_of n (files_after s k f)) ≡ 0
  new-fine = (after-change n s k f tries).0

  pub new-files : (i : ℕ) → i < n → file_at (bundle_of n (files_after s k f)) i ≡ files_after s k f i
  new-files = (after-change n s k f tries).1

  pub new-only : holds_only calendars (file_at s) n ≡ true → holds_only calendars (file_at (bundle_of n (files_after s k f))) n ≡ true
  unfolding files_after
  new-only h = holds_same calendars n (file_at (bundle_of n (files_after s k f))) (files_after s k f) new-files ∙ holds-changed calendars n (file_at s) k f may h

-- ---- the joined set after a change is that of the bundles as they then stand
pub shared-or-not : (calendars : Bool) (k : ℕ) → may_hold calendars k ≡ true → is_shared k ≡ calendars
unfolding may_hold
shared-or-not true k e = e
shared-or-not false k e = not-true (is_shared k) e

other-file : (i k : ℕ) (t : Bool) → is_shared i ≡ t → is_shared k ≡ not t → eqb i k ≡ true → ⊥
other-file i k true e q h = true≢false (sym e ∙ ap is_shared (eqb-true i k h) ∙ q)
other-file i k false e q h = true≢false (sym q ∙ ap is_shared (sym (eqb-true i k h)) ∙ e)

module _ (n : ℕ) (desk shared : List ℕ) (k : ℕ) (f : File) (room : ℕ) where
  module _ (fine : change_fault n false desk k f room ≡ 0) where
    pub own-join : (i : ℕ) → i < n → changed (joined_set desk shared) k f i ≡ joined_set (bundle_of n (files_after desk k f)) shared i
    unfolding joined_set files_after changed
    own-join i l = rw (new-files n false desk k f room fine i l) (go (is_shared i) (eqb i k) refl refl)
      where
        go : (t u : Bool) → is_shared i ≡ t → eqb i k ≡ u → cond u f (cond t (file_at shared i) (file_at desk i)) ≡ cond t (file_at shared i) (cond u f (file_at desk i))
        go true true e h = absurd (other-file i k true e (shared-or-not false k (may n false desk k f room fine)) h)
        go true false e h = refl
        go false true e h = refl
        go false false e h = refl

    -- and it is still one
    pub own-joined : Joined n desk shared → Joined n (bundle_of n (files_after desk k f)) shared
    own-joined j =
        record {
          own = new-fine n false desk k f room fine;
          common = j.common;
          own-only = new-only n false desk k f room fine j.own-only;
          common-only = j.common-only;
        }

  module _ (fine : change_fault n true shared k f room ≡ 0) where
    pub calendar-join : (i : ℕ) → i < n → changed (joined_set desk shared) k f i ≡ joined_set desk (bundle_of n (files_after shared k f)) i
    unfolding joined_set files_after changed
    calendar-join i l = rw (new-files n true shared k f room fine i l) (go (is_shared i) (eqb i k) refl refl)
      where
        go : (t u : Bool) → is_shared i ≡ t → eqb i k ≡ u → cond u f (cond t (file_at shared i) (file_at desk i)) ≡ cond t (cond u f (file_at shared i)) (file_at desk i)
        go false true e h = absurd (other-file i k false e (shared-or-not true k (may n true shared k f room fine)) h)
        go false false e h = refl
        go true true e h = refl
        go true false e h = refl

    pub calendar-joined : Joined n desk shared → Joined n desk (bundle_of n (files_after shared k f))
    calendar-joined j =
        record {
          own = j.own;
          common = new-fine n true shared k f room fine;
          own-only = j.own-only;
          common-only = new-only n true shared k f room fine j.common-only;
        }
