-- From the empty state no run of at most 256 sets is refused; each total is the sum over its sets of what they add, in whatever
-- order they come; and each place of the run is listed exactly if its set is left out.
-- Assumes nothing.
use Prim.Native.Nat.{ℕ, ◌+◌, ◌*◌, ◌≤◌, ◌<◌}
use mathlib.Core.Path.{◌≡◌, refl, sym, ap, ◌∙◌}
use mathlib.Core.Bool.{true, false}
use mathlib.Core.List.{List, [], ◌∷◌}
use native.Mathlib.Omega.{arith}
use lib.ListN.{length}
use lib.IntN.{ℤ, pos, ◌+ℤ◌, nat_abs, +ℤ_idl, +ℤ_idr, +ℤ_assoc, +ℤ_comm}
use Rattle.exact_sums.specs.Sums.{sum_over, whole_at}
use Rattle.exact_sums.proofs.Signed.{sum-within}
use Rattle.exact_sums.proofs.Lists.{whole-at}
use Rattle.set_sums.specs.Set.{set_adds}
use Rattle.set_sums.proofs.Laws.{set-near}
use Rattle.quarter.specs.declared.Quarter.{Quarter}
use Rattle.quarter.specs.Quarter.{started, is_refused, with_set, refused_with, accepted_as, taken}
use Rattle.quarter.specs.Run.{after_sets, NoneRefused, Reordered, None, Kept, Swapped, Then}
use Rattle.quarter.proofs.Laws.{not-refused}

-- ---- a call by whether the state is refused: 10 exactly in its case
pub taken_refused : (q : Quarter) (s : List ℕ) → is_refused q ≡ true → taken q s ≡ refused_with 10 q
unfolding taken
taken_refused q s e = rw e

pub taken-accepted : (q : Quarter) (s : List ℕ) → is_refused q ≡ false → taken q s ≡ accepted_as (with_set q s)
unfolding taken
taken-accepted q s e = rw e

-- ---- a state after n sets, from the empty one
record After (n : ℕ) (q : Quarter) : Type 0 where
  pub count : q.sets ≡ n
  pub near : (i : ℕ) → i < 24 → nat_abs (whole_at q.totals i) ≤ 4096000000000000 * n

none_after : After 0 started
unfolding started
none_after = record { count = refl; near = λ i l. rw (whole-at (λ j. pos 0) 24 i l) (omega arith) }

adds-at : (q : Quarter) (s : List ℕ) (i : ℕ) → i < 24 → whole_at (with_set q s).totals i ≡ whole_at q.totals i +ℤ set_adds s i
unfolding with_set
adds-at q s i l = whole-at (λ j. whole_at q.totals j +ℤ set_adds s j) 24 i l

adds-near : (s : List ℕ) (i : ℕ) → i < 24 → nat_abs (set_adds s i) ≤ 4096000000000000
unfolding set_adds
adds-near s i l = set-near s i l

module _ (n : ℕ) (q : Quarter) (so_far : After n q) (s : List ℕ) (few : n < 256) where
  goes_on : is_refused q ≡ false
  goes_on =
      not-refused q (omega (arith, so_far.count)) (λ i l. rw so_far.count (so_far.near i l))

  one-after : After (n + 1) (with_set q s)
  unfolding with_set
  one-after =
      record {
        count = omega (arith, so_far.count);
        near = λ i l. rw (adds-at q s i l) (omega (arith, sum-within (whole_at q.totals i) (set_adds s i), so_far.near i l, adds-near s i l));
      }

  next-refusal : (taken q s).refusal ≡ 0
  unfolding accepted_as
  next-refusal = ap (λ t. t.refusal) (taken-accepted q s goes_on)

  next-is : (taken q s).quarter ≡ with_set q s
  unfolding accepted_as
  next-is = ap (λ t. t.quarter) (taken-accepted q s goes_on)

sets-next : (q : Quarter) (s : List ℕ) → (with_set q s).sets ≡ q.sets + 1
unfolding with_set
sets-next q s = refl

-- ---- a run from there
record Ran (sets : List (List ℕ)) (q last : Quarter) : Type 0 where
  pub accepted : NoneRefused sets q
  pub count : last.sets ≡ q.sets + length sets
  pub totals : (i : ℕ) → i < 24 → whole_at last.totals i ≡ whole_at q.totals i +ℤ sum_over (λ s. set_adds s i) sets

run-from : (sets : List (List ℕ)) (n : ℕ) (q : Quarter) → After n q → n + length sets ≤ 256 → Ran sets q (after_sets sets q)
unfolding after_sets sum_over
run-from [] n q so_far few =
    record { accepted = tt; count = omega arith; totals = λ i l. sym (+ℤ_idr (whole_at q.totals i)) }
run-from (s ∷ sets) n q so_far few =
    let rest : Ran sets (with_set q s) (after_sets sets (with_set q s)) = run-from sets (n + 1) (with_set q s) (one-after n q so_far s (omega arith)) (omega arith) in
    put (next-refusal n q so_far s (omega arith)) (next-is n q so_far s (omega arith)) rest
  where
    put : (taken q s).refusal ≡ 0 → (taken q s).quarter ≡ with_set q s → Ran sets (with_set q s) (after_sets sets (with_set q s)) → Ran (s ∷ sets) q (after_sets sets (taken q s).quarter)
    put r e rest =
        record {
          accepted = (r, rw e rest.accepted);
          count = rw e (omega (arith, rest.count, sets-next q s));
          totals = λ i l. rw e (rest.totals i l ∙ ap (λ (x : ℤ). x +ℤ sum_over (λ s. set_adds s i) sets) (adds-at q s i l) ∙ +ℤ_assoc (whole_at q.totals i) (set_adds s i) (sum_over (λ s. set_adds s i) sets));
        }

module _ (sets : List (List ℕ)) (few : length sets ≤ 256) where
  ran : Ran sets started (after_sets sets started)
  ran = run-from sets 0 started none_after (omega arith)

  pub never-refused : NoneRefused sets started
  never-refused = ran.accepted

  pub all-counted : (after_sets sets started).sets ≡ length sets
  unfolding started
  all-counted = ran.count ∙ omega arith

  -- total i after the run is the sum over its sets
  pub totals-are : (i : ℕ) → i < 24 → whole_at (after_sets sets started).totals i ≡ sum_over (λ s. set_adds s i) sets
  unfolding started
  totals-are i l =
      ran.totals i l ∙ rw (whole-at (λ j. pos 0) 24 i l) (+ℤ_idl (sum_over (λ s. set_adds s i) sets))

-- ---- in whatever order
sum-reordered : {A : Type 0} (f : A → ℤ) {l m : List A} → Reordered l m → sum_over f l ≡ sum_over f m
unfolding sum_over
sum-reordered f None = refl
sum-reordered f (Kept {x} r) = ap (λ (y : ℤ). f x +ℤ y) (sum-reordered f r)
sum-reordered f (Swapped {x} {y} {l}) =
    sym (+ℤ_assoc (f x) (f y) (sum_over f l)) ∙ ap (λ (z : ℤ). z +ℤ sum_over f l) (+ℤ_comm (f x) (f y)) ∙ +ℤ_assoc (f y) (f x) (sum_over f l)
sum-reordered f (Then r q) = sum-reordered f r ∙ sum-reordered f q

pub any_order : {sets others : List (List ℕ)} → Reordered sets others → length sets ≤ 256 → length others ≤ 256 → (i : ℕ) → i < 24 → whole_at (after_sets sets started).totals i ≡ whole_at (after_sets others started).totals i
any_order {sets} {others} r a b i l =
    totals-are sets a i l ∙ sum-reordered (λ s. set_adds s i) r ∙ sym (totals-are others b i l)
