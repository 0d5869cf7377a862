-- The refusals of a desk as a table, each number with its test, in the order of document 02's order 10; and each given only in
-- its case.
-- Assumes nothing.
use Prim.Native.Nat.{ℕ, suc}
use mathlib.Core.Path.{◌≡◌, refl, sym, ap, ◌∙◌}
use mathlib.Core.Bool.{Bool, true, false, cond, not, ◌&&◌, ◌||◌}
use mathlib.Core.List.{List, [], ◌∷◌, ◌++◌}
use borrow.Author.Tests.{eqb-true}
use lib.ListN.{length}
use lib.Dec.{ltb, eqb}
use Rattle.parts.specs.Files.{File}
use Rattle.bundle_bytes.specs.Words.{word_at}
use Rattle.bundle_layout.specs.Bundle.{header_size, laid_out, bundle_fault, file_at, lookup_fault, bundle_length}
use Rattle.bundle_layout.specs.Change.{files_after, try_fault, make_fault}
use Rattle.gate_calls.proofs.Refusals.{first_refusal, is_case, in-case, bundle_rows}
use Rattle.desks_calls.specs.Join.{may_hold, holds_only, or_else, join_fault, change_fault}
use Rattle.desks_calls.specs.Desks.{Sight, NoChange, OwnChange, CalendarChange, sight_fault, desk_fault}
use Rattle.desks_calls.proofs.Laws.{join-none}

-- a change: 4, "right after 4" 9, then 6 and 5
pub change_rows : ℕ → Bool → List ℕ → ℕ → File → ℕ → List (Bool × ℕ)
change_rows n calendars s k f room =
    (not (ltb k n), 4) ∷ (not (may_hold calendars k), 9) ∷ (ltb 1048576 (bundle_length n (files_after s k f)), 6) ∷ (ltb room (bundle_length n (files_after s k f)), 5) ∷ []

-- of a change only what the desk sees
pub sight_rows : ℕ → List ℕ → List ℕ → Sight → List (Bool × ℕ)
sight_rows n desk shared NoChange = []
sight_rows n desk shared (OwnChange k f room) = change_rows n false desk k f room
sight_rows n desk shared (CalendarChange k f room) = change_rows n true shared k f room

-- "9 .. after 1 to 3 on that desk's bundle and then on the shared one"
pub desk_rows : ℕ → List ℕ → List ℕ → Sight → List (Bool × ℕ)
desk_rows n desk shared sight =
    bundle_rows n desk ++ (bundle_rows n shared ++ ((not (holds_only false (file_at desk) n && holds_only true (file_at shared) n), 9) ∷ sight_rows n desk shared sight))

either-then : (x y z : ℕ) → or_else (or_else x y) z ≡ or_else x (or_else y z)
unfolding or_else
either-then x y z = go (eqb x 0) refl
  where
    go : (t : Bool) → eqb x 0 ≡ t → cond (eqb (cond t y x) 0) z (cond t y x) ≡ cond t (cond (eqb y 0) z y) x
    go true e = refl
    go false e = rw e

bundle-then : (n : ℕ) (s : List ℕ) (rows : List (Bool × ℕ)) → or_else (bundle_fault n s) (first_refusal rows) ≡ first_refusal (bundle_rows n s ++ rows)
unfolding bundle_fault or_else first_refusal bundle_rows
bundle-then n s rows = go (ltb (length s) (header_size n) || ltb 1048576 (length s)) (eqb (word_at s 0) n) (laid_out n s)
  where
    go : (a b c : Bool) → cond (eqb (cond a 1 (cond b (cond c 0 3) 2)) 0) (first_refusal rows) (cond a 1 (cond b (cond c 0 3) 2)) ≡ first_refusal ((a, 1) ∷ (not b, 2) ∷ (not c, 3) ∷ rows)
    go true b c = refl
    go false true true = refl
    go false true false = refl
    go false false c = refl

nine-then : (t : Bool) (rows : List (Bool × ℕ)) → or_else (cond t 0 9) (first_refusal rows) ≡ first_refusal ((not t, 9) ∷ rows)
unfolding or_else first_refusal
nine-then true rows = refl
nine-then false rows = refl

-- of a bundle that is not refused itself
change-refusals : (n : ℕ) (calendars : Bool) (s : List ℕ) (k : ℕ) (f : File) (room : ℕ) → bundle_fault n s ≡ 0 → change_fault n calendars s k f room ≡ first_refusal (change_rows n calendars s k f room)
unfolding change_fault make_fault try_fault lookup_fault first_refusal change_rows
change-refusals n calendars s k f room e =
    rw e (go (ltb k n) (may_hold calendars k) (ltb 1048576 (bundle_length n (files_after s k f))) (ltb room (bundle_length n (files_after s k f))))
  where
    tries : Bool → Bool → ℕ
    tries t x = cond (eqb (cond t 0 4) 0) (cond x 6 0) (cond t 0 4)

    go : (t m x y : Bool) → cond (t && not m) 9 (cond (eqb (tries t x) 0) (cond y 5 0) (tries t x)) ≡ first_refusal ((not t, 4) ∷ (not m, 9) ∷ (x, 6) ∷ (y, 5) ∷ [])
    go false m x y = refl
    go true false x y = refl
    go true true true y = refl
    go true true false true = refl
    go true true false false = refl

module _ (n : ℕ) (desk shared : List ℕ) where
  seen-refusals : (sight : Sight) → join_fault n desk shared ≡ 0 → sight_fault n desk shared sight ≡ first_refusal (sight_rows n desk shared sight)
  unfolding sight_fault sight_rows first_refusal
  seen-refusals NoChange z = refl
  seen-refusals (OwnChange k f room) z = change-refusals n false desk k f room (join-none n desk shared z).own
  seen-refusals (CalendarChange k f room) z = change-refusals n true shared k f room (join-none n desk shared z).common

  rows-joined : (sight : Sight) → or_else (join_fault n desk shared) (first_refusal (sight_rows n desk shared sight)) ≡ first_refusal (desk_rows n desk shared sight)
  unfolding join_fault desk_rows
  rows-joined sight =
      either-then (bundle_fault n desk) _ _
      ∙ ap (or_else (bundle_fault n desk)) (either-then (bundle_fault n shared) _ _ ∙ ap (or_else (bundle_fault n shared)) (nine-then (holds_only false (file_at desk) n && holds_only true (file_at shared) n) (sight_rows n desk shared sight)) ∙ bundle-then n shared _)
      ∙ bundle-then n desk _

  pub desk-refusals : (sight : Sight) → desk_fault n desk shared sight ≡ first_refusal (desk_rows n desk shared sight)
  unfolding desk_fault or_else
  desk-refusals sight = go (eqb (join_fault n desk shared) 0) refl ∙ rows-joined sight
    where
      go : (t : Bool) → eqb (join_fault n desk shared) 0 ≡ t → or_else (join_fault n desk shared) (sight_fault n desk shared sight) ≡ or_else (join_fault n desk shared) (first_refusal (sight_rows n desk shared sight))
      go true e = ap (or_else (join_fault n desk shared)) (seen-refusals sight (eqb-true (join_fault n desk shared) 0 e))
      go false e = rw e

  -- each only in its case
  pub refused-in-case : (sight : Sight) (r : ℕ) → desk_fault n desk shared sight ≡ suc r → is_case (suc r) (desk_rows n desk shared sight) ≡ true
  refused-in-case sight r e = in-case (desk_rows n desk shared sight) r (sym (desk-refusals sight) ∙ e)
