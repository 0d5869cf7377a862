-- A total beyond its limit, a state that is not refused, and a set's sums added: near enough to zero to be held.
-- Assumes nothing.
use Prim.Native.Nat.{ℕ, ◌+◌, ◌*◌, ◌≤◌, ◌<◌}
use mathlib.Core.Path.{◌≡◌, refl, sym, ap, ◌∙◌}
use mathlib.Core.Bool.{Bool, true, false, cond, not, ◌||◌, true≢false}
use mathlib.Core.List.{List}
use native.Mathlib.Omega.{arith}
use borrow.Author.Tests.{le-leb, lt-leb, le-ltb, ltb-false, leb-false}
use lib.ListN.{length, set}
use lib.Dec.{ltb, leb}
use lib.IntN.{ℤ, pos, ◌+ℤ◌, nat_abs, +ℤ_idl}
use Rattle.exact_sums.specs.Sums.{sum_to, wholes, whole_at}
use Rattle.exact_sums.proofs.Signed.{sum-within}
use Rattle.exact_sums.proofs.Lists.{whole-at, wholes-same}
use Rattle.rule_cells.specs.Cells.{first_that}
use Rattle.rule_cells.proofs.First.{first-none, none_first}
use Rattle.element_sums.specs.declared.Sums.{Sums}
use Rattle.set_sums.specs.Set.{set_sums, is_counted, set_adds, set_sums_in}
use Rattle.set_sums.specs.Work.{sums_left}
use Rattle.set_sums.proofs.Laws.{too_short, set-near}
use Rattle.quarter.specs.declared.Quarter.{Quarter}
use Rattle.quarter.specs.declared.Taken.{Taken}
use Rattle.quarter.specs.Quarter.{limit_of, is_beyond, is_refused, with_set, grand_total, refused_with, accepted_as, taken, taken_in, taken_left}
use Rattle.quarter.specs.Code.{far_from, some_far, totals_with, column_grand, grand_of, state_with}

-- ---- a state that is refused, or not
or_right : (a b : Bool) → a ≡ false → (a || b) ≡ b
or_right a b e = rw e

pub too-many-sets : (q : Quarter) → 256 ≤ q.sets → true ≡ is_refused q
unfolding is_refused
too-many-sets q h = sym (rw (le-leb 256 q.sets h))

pub by-totals : (q : Quarter) → q.sets < 256 → {x : Bool} → x ≡ some_far (4096000000000000 * q.sets) q.totals → x ≡ is_refused q
unfolding is_refused some_far is_beyond far_from
by-totals q h e = e ∙ sym (or_right (leb 256 q.sets) _ (lt-leb 256 q.sets h))

module _ (q : Quarter) (not-refused : is_refused q ≡ false) where
  or-first : (a b : Bool) → (a || b) ≡ false → a ≡ false
  or-first true b e = e
  or-first false b e = refl

  or-second : (a b : Bool) → (a || b) ≡ false → b ≡ false
  or-second true b e = absurd (true≢false e)
  or-second false b e = e

  pub few-sets : q.sets < 256
  unfolding is_refused
  few-sets = leb-false 256 q.sets (or-first (leb 256 q.sets) (ltb 0 (first_that (is_beyond q) 24)) not-refused)

  pub totals-near : (i : ℕ) → i < 24 → nat_abs (whole_at q.totals i) ≤ 4096000000000000 * q.sets
  unfolding is_refused is_beyond
  totals-near i l =
      let none : first_that (is_beyond q) 24 ≡ 0 = omega (arith, ltb-false 0 (first_that (is_beyond q) 24) (or-second (leb 256 q.sets) (ltb 0 (first_that (is_beyond q) 24)) not-refused)) in
      ltb-false (limit_of q.sets) (nat_abs (whole_at q.totals i)) (first-none (is_beyond q) 24 none i l)

pub not-refused : (q : Quarter) → q.sets < 256 → ((i : ℕ) → i < 24 → nat_abs (whole_at q.totals i) ≤ 4096000000000000 * q.sets) → is_refused q ≡ false
unfolding is_refused is_beyond
not-refused q h near =
    or_right (leb 256 q.sets) _ (lt-leb 256 q.sets h)
    ∙ rw (none_first (is_beyond q) 24 (λ i l. le-ltb (limit_of q.sets) (nat_abs (whole_at q.totals i)) (near i l)))

-- ---- with a set's sums
with-near : (totals sums : List ℤ) (a b i : ℕ) → i < 24 → nat_abs (whole_at totals i) ≤ a → nat_abs (whole_at sums i) ≤ b → nat_abs (whole_at (totals_with totals sums) i) ≤ a + b
unfolding totals_with
with-near totals sums a b i l h k =
    rw (whole-at (λ j. whole_at totals j +ℤ whole_at sums j) 24 i l) (omega (arith, sum-within (whole_at totals i) (whole_at sums i)))

pub sums-hold : (q : Quarter) → is_refused q ≡ false → (sums : List ℤ) → ((i : ℕ) → i < 24 → nat_abs (whole_at sums i) ≤ 4096000000000000) → (i : ℕ) → i < 24 → nat_abs (whole_at q.totals i) + nat_abs (whole_at sums i) < 9223372036854775808
sums-hold q n sums near i l = omega (arith, few-sets q n, totals-near q n i l, near i l)

pub totals-hold : (q : Quarter) → is_refused q ≡ false → (sums : List ℤ) → ((i : ℕ) → i < 24 → nat_abs (whole_at sums i) ≤ 4096000000000000) → {totals : List ℤ} → totals ≡ totals_with q.totals sums → (i : ℕ) → i < 24 → nat_abs (whole_at totals i) < 2000000000000000000
totals-hold q n sums near e i l =
    rw e (omega (arith, few-sets q n, with-near q.totals sums (4096000000000000 * q.sets) 4096000000000000 i l (totals-near q n i l) (near i l)))

-- ---- the state with what a set adds
pub state-is : (q : Quarter) (s : List ℕ) {found : Sums} → found ≡ set_sums s → state_with q found ≡ with_set q s
unfolding state_with with_set totals_with set_adds is_counted
state-is q s e = rw e

-- a column's four, as the code adds them
pub grand-is : (q : Quarter) {totals : List ℤ} → totals ≡ q.totals → grand_of totals ≡ wholes (grand_total q) 6
unfolding grand_of column_grand grand_total sum_to
grand-is q e = rw e (wholes-same _ _ 6 (λ c l. four (whole_at q.totals) c))
  where
    zero-first : (x : ℤ) → x ≡ pos 0 +ℤ x
    zero-first x = sym (+ℤ_idl x)

    four : (f : ℕ → ℤ) (c : ℕ) → f c +ℤ f (c + 6) +ℤ f (c + 12) +ℤ f (c + 18) ≡ pos 0 +ℤ f (6 * 0 + c) +ℤ f (6 * 1 + c) +ℤ f (6 * 2 + c) +ℤ f (6 * 3 + c)
    four f c =
        let a : c + 6 ≡ 6 * 1 + c = omega arith in
        let b : c + 12 ≡ 6 * 2 + c = omega arith in
        let d : c + 18 ≡ 6 * 3 + c = omega arith in
        let z : 6 * 0 + c ≡ c = omega arith in
        rw (a, b, d, z) (ap (λ (x : ℤ). x +ℤ f (6 * 1 + c) +ℤ f (6 * 2 + c) +ℤ f (6 * 3 + c)) (zero-first (f c)))

-- ---- the answer with a set's sums
pub accepted-is : (q : Quarter) (found : Sums) {totals grand : List ℤ} → totals ≡ totals_with q.totals found.sums → grand ≡ grand_of totals
    → record { refusal = 0; quarter = record { totals = totals; sets = q.sets + 1; left = set q.left q.sets (not found.fits) }; grand = grand } ≡ accepted_as (state_with q found)
unfolding accepted_as state_with
accepted-is q found {totals} {grand} e g =
    ap (answered totals) (g ∙ ap grand_of e) ∙ ap (λ (x : List ℤ). answered x (grand_of (totals_with q.totals found.sums))) e
    ∙ ap (answered (totals_with q.totals found.sums)) (grand-is (state (totals_with q.totals found.sums)) refl)
  where
    state : List ℤ → Quarter
    state x = record { totals = x; sets = q.sets + 1; left = set q.left q.sets (not found.fits) }

    answered : List ℤ → List ℤ → Taken
    answered x y = record { refusal = 0; quarter = state x; grand = y }

-- ---- the ways through the call
module _ (q : Quarter) (s work : List ℕ) where
  pub too-short-taken : length work < 794702 → (refused_with 14 q ≡ taken_in q s (length work)) × (work ≡ taken_left q s work)
  unfolding taken_in taken_left
  too-short-taken h = (rw (lt-leb 794702 (length work) h), either (is_refused q))
    where
      either : (b : Bool) → work ≡ cond b work (sums_left s work)
      either true = refl
      either false = (too_short s work h).1

  module _ (room : 794702 ≤ length work) {x : Bool} (x-is : x ≡ is_refused q) where
    pub refused-taken : x ≡ true → (refused_with 10 q ≡ taken_in q s (length work)) × (work ≡ taken_left q s work)
    unfolding taken_in taken_left taken
    refused-taken e = (rw (le-leb 794702 (length work) room, ← x-is, e), rw (← x-is, e))

    module _ {found : Sums} (found-is : found ≡ set_sums_in (length work) s) where
      found-same : found ≡ set_sums s
      unfolding set_sums_in
      found-same = found-is ∙ rw (le-leb 794702 (length work) room)

      pub found-near : (i : ℕ) → i < 24 → nat_abs (whole_at found.sums i) ≤ 4096000000000000
      found-near i l = rw found-same (set-near s i l)

      pub set-taken : x ≡ false → {last : List ℕ} → last ≡ sums_left s work → {r : Taken} → r ≡ accepted_as (state_with q found) → (r ≡ taken_in q s (length work)) × (last ≡ taken_left q s work)
      unfolding taken_in taken_left taken
      set-taken e l r-is =
          (r-is ∙ ap accepted_as (state-is q s found-same) ∙ rw (le-leb 794702 (length work) room, ← x-is, e), l ∙ rw (← x-is, e))

pub own-taken : (q : Quarter) (s : List ℕ) {lent : ℕ} → lent ≡ 794702 → {r : Taken} → r ≡ taken_in q s lent → r ≡ taken q s
unfolding taken_in
own-taken q s {lent} e r-is = r-is ∙ rw (le-leb 794702 lent (omega arith))
