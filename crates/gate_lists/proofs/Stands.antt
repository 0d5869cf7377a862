-- A bundle's files, put down one after the other, stand as its layout says; and after a change the changed one stands in the
-- new bytes, or nowhere.
-- Assumes nothing.
use Prim.Native.Nat.{ℕ, zero, suc, ◌+◌, ◌-◌, ◌/◌, ◌≤◌, ◌<◌}
use mathlib.Core.Path.{◌≡◌, refl, sym, ap, ◌∙◌}
use mathlib.Core.Bool.{Bool, true, false, cond}
use mathlib.Core.Logic.{⊎_elim}
use mathlib.Core.List.{List}
use native.Mathlib.Nat.{eq-or-lt_of_le}
use native.Mathlib.Numerals.{add-one}
use native.Mathlib.Omega.{arith}
use lib.ListN.{length}
use lib.Seq.{take_all}
use lib.Dec.{ltb, eqb}
use borrow.Author.Tests.{le-leb, eqb-true, eqb-false}
use Rattle.parts.specs.Part.{part_of}
use Rattle.parts.specs.Files.{Left, Given, new_file}
use Rattle.parts.proofs.Laws.{part-is}
use Rattle.standing.specs.Standing.{slice_of, standing, start_standing, standing_with}
use Rattle.standing.proofs.Laws.{slice_first, slice-second, placed-length, placed-fits, placed-there, placed-nowhere, placed-other, start-placed, start-kept}
use Rattle.bundle_bytes.specs.Pieces.{changed}
use Rattle.bundle_bytes.proofs.Laws.{changed-same, changed-other}
use Rattle.bundle_layout.specs.Bundle.{offset_at, length_at, is_omitted, bundle_fault, part_at, file_at}
use Rattle.bundle_layout.specs.Change.{files_after}
use Rattle.bundle_layout.proofs.Laws.{omitted-offset, present-offset, end-within}
use Rattle.gate_lists.specs.Stands.{stands_in}

module _ (s stand : List ℕ) where
  pub stands-length : (n : ℕ) → length (stands_in s n stand) ≡ length stand
  unfolding stands_in
  stands-length zero = refl
  stands-length (suc n) = placed-length (stands_in s n stand) n _ _ _ ∙ stands-length n

  -- one file more, as the code puts it down
  pub stands-next : (k : ℕ) {which from to : ℕ} {list last : List ℕ} → list ≡ stands_in s k stand → k < length stand / 3
      → which ≡ cond (is_omitted s k) 0 1 → from ≡ offset_at s k → to ≡ offset_at s k + length_at s k
      → last ≡ cond (ltb k (length list / 3)) (standing_with list k which from to) list → last ≡ stands_in s (k + 1) stand
  unfolding stands_in
  stands-next k {which} {from} {to} {list} {last} e l w f t is =
      is ∙ placed-fits list k which from to (rw (ap length e ∙ stands-length k) l) ∙ rw (e, w, f, t, add-one k)

  module _ (b c : List ℕ) where
    -- the file that was put down last
    stands-last : (k : ℕ) → k < length stand / 3 → standing s b c (stands_in s (suc k) stand) k ≡ file_at s k
    unfolding stands_in file_at part_at
    stands-last k l = go (is_omitted s k)
      where
        room : k < length (stands_in s k stand) / 3
        room = rw (stands-length k) l

        go : (t : Bool) → standing s b c (standing_with (stands_in s k stand) k (cond t 0 1) (offset_at s k) (offset_at s k + length_at s k)) k ≡ cond t Left (Given (part_of s (offset_at s k) (offset_at s k + length_at s k)))
        go true = placed-nowhere (stands_in s k stand) k 0 _ _ room s b c refl
        go false = placed-there (stands_in s k stand) k 1 _ _ room s b c (λ e. omega arith) ∙ ap (λ a. Given (part_of a (offset_at s k) (offset_at s k + length_at s k))) (slice_first s b c 1 refl)

    pub stands-bundle : (n : ℕ) → n ≤ length stand / 3 → (k : ℕ) → k < n → standing s b c (stands_in s n stand) k ≡ file_at s k
    unfolding stands_in
    stands-bundle zero l k h = absurd (omega arith)
    stands-bundle (suc n) l k h =
        ⊎_elim (λ e. rw e (stands-last n l)) (λ g. placed-other (stands_in s n stand) n _ _ _ s b c k (λ q. omega arith) ∙ stands-bundle n (omega arith) k g)
        (eq-or-lt_of_le {n = k} {m = n} (omega arith))

    -- where it starts in the bundle, if that is long enough
    abbrev Fits : ℕ → Type 0
    Fits k = offset_at s k ≤ length (slice_of s b c (cond (is_omitted s k) 0 1))

    starts-last : (k : ℕ) → k < length stand / 3 → Fits k → start_standing s b c (stands_in s (suc k) stand) k ≡ offset_at s k
    unfolding stands_in
    starts-last k l fits =
        start-placed (stands_in s k stand) k (cond (is_omitted s k) 0 1) (offset_at s k) (offset_at s k + length_at s k) s b c (rw (stands-length k) l) ∙ rw (le-leb (offset_at s k) (length (slice_of s b c (cond (is_omitted s k) 0 1))) fits)

    pub starts-bundle : (n : ℕ) → n ≤ length stand / 3 → (k : ℕ) → k < n → Fits k → start_standing s b c (stands_in s n stand) k ≡ offset_at s k
    unfolding stands_in
    starts-bundle zero l k h fits = absurd (omega arith)
    starts-bundle (suc n) l k h fits =
        ⊎_elim (λ e. rw e (starts-last n l (rw e at fits))) (λ g. start-kept (stands_in s n stand) n _ _ _ s b c k (λ q. omega arith) ∙ starts-bundle n (omega arith) k g fits)
        (eq-or-lt_of_le {n = k} {m = n} (omega arith))

    -- as it is where the bundle is not refused
    pub offset-fits : (n : ℕ) → bundle_fault n s ≡ 0 → (k : ℕ) → k < n → Fits k
    offset-fits n fine k l = go (is_omitted s k) refl
      where
        go : (t : Bool) → is_omitted s k ≡ t → offset_at s k ≤ length (slice_of s b c (cond t 0 1))
        go true e = omega (arith, omitted-offset s k e)
        go false e = rw (slice_first s b c 1 refl) (omega (arith, present-offset n s fine k l e, end-within n s fine k l))

-- ---- after a change of file k: in the second slice, whole, or nowhere
whole_part : (new : List ℕ) → part_of new 0 (length new) ≡ new
whole_part new =
    let n : length new - 0 ≡ length new = omega arith in
    part-is new 0 (length new) (omega arith) (omega arith) ∙ rw n (take_all (length new) new (omega arith))

module _ (s new c stand : List ℕ) (n k : ℕ) (room : n ≤ length stand / 3) (small : k < n) (present : Bool) where
  new-there : standing s new c (standing_with (stands_in s n stand) k (cond present 2 0) 0 (length new)) k ≡ new_file present new
  unfolding new_file
  new-there = go present
    where
      long : k < length (stands_in s n stand) / 3
      long = rw (stands-length s stand n) (omega arith)

      go : (t : Bool) → standing s new c (standing_with (stands_in s n stand) k (cond t 2 0) 0 (length new)) k ≡ cond t (Given new) Left
      go true = placed-there (stands_in s n stand) k 2 0 (length new) long s new c (λ e. omega arith) ∙ ap (λ a. Given (part_of a 0 (length new))) (slice-second s new c 2 refl) ∙ ap Given (whole_part new)
      go false = placed-nowhere (stands_in s n stand) k 0 0 (length new) long s new c refl

  pub stands_after : (j : ℕ) → j < n → standing s new c (standing_with (stands_in s n stand) k (cond present 2 0) 0 (length new)) j ≡ files_after s k (new_file present new) j
  unfolding files_after
  stands_after j h = go (eqb j k) refl
    where
      go : (t : Bool) → eqb j k ≡ t → standing s new c (standing_with (stands_in s n stand) k (cond present 2 0) 0 (length new)) j ≡ changed (file_at s) k (new_file present new) j
      go true e = rw (eqb-true j k e) (new-there ∙ sym (changed-same (file_at s) k (new_file present new)))
      go false e =
          placed-other (stands_in s n stand) k _ _ _ s new c j (eqb-false j k e) ∙ stands-bundle s stand new c n room j h ∙ sym (changed-other (file_at s) k (new_file present new) j (eqb-false j k e))
