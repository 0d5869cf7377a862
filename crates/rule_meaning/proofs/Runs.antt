-- What the rules over a run of fields mean, marks 68, 69, 70, 75, 81, 82 and 84, and what the rule on keys means, marks 20 to 35.
-- Assumes nothing.
use Prim.Native.Nat.{ℕ}
use mathlib.Core.Path.{◌≡◌, refl, ap}
use mathlib.Core.Bool.{Bool, true, false, not, ◌&&◌}
use mathlib.Core.Logic.{◌↔◌, inl, inr, ⊎_elim}
use borrow.Author.Tests.{not-false}
use Rattle.rule_cells.specs.Cells.{Table, is_given, sign_in}
use Rattle.rule_key.specs.declared.Key.{Key}
use Rattle.rule_key.specs.Key.{same_key, repeats, key_rule}
use Rattle.rule_key.proofs.Laws.{repeats-none, none-repeats}
use Rattle.rule_hours.specs.Hours.{any_field, below_zero, above_zero, lies_below, is_above, is_null, breaks, none_below_rule, some_above_rule, together_rule, all_given_rule, none_given_rule}
use Rattle.rule_hours.proofs.Laws.{any-shows, none-shows, shown-any, shown-none, other-than-below, is-above}
use Rattle.rule_meaning.specs.Keeps.{Answers, HasItsOwnKey, NoneIsBelow, SomeIsAbove, NoneIsGiven, AllAreGiven, AllNullOrNone}
use Rattle.rule_meaning.proofs.Answers.{answers, not-true-false, never_both}

-- ---- Marks 20 to 35 hold exactly if no record has the key of an earlier one, and else name the first that has
pub key-means : (t : Table) (key : Key) → Answers (HasItsOwnKey t key) t.records (key_rule t key).«record»
unfolding key_rule
key-means t key = answers (repeats t key) (HasItsOwnKey t key) told t.records
  where
    told : (r : ℕ) → (repeats t key r ≡ false) ↔ HasItsOwnKey t key r
    told r = (
      λ e j l same. never_both same (repeats-none t key r e j l),
      λ own. none-repeats t key r (λ j l. not-true-false (same_key t key j r) (own j l)),
    )

module _ (t : Table) (from to : ℕ) where
  -- ---- Marks 68 and 70 hold exactly if no record has hours below zero, and else name the first that has
  pub none-below-means : Answers (NoneIsBelow t from to) t.records (none_below_rule t from to)
  unfolding none_below_rule breaks lies_below
  none-below-means = answers _ (NoneIsBelow t from to) told t.records
    where
      told : (r : ℕ) → (any_field (lies_below t r) from to ≡ false) ↔ NoneIsBelow t from to r
      told r = (
        λ e k a b below. never_both (ap below_zero below) (none-shows (lies_below t r) from to e k a b),
        λ none. shown-none (lies_below t r) from to (λ k a b. other-than-below (sign_in t r k) (none k a b)),
      )

  -- ---- Mark 69 holds exactly if every record has some hours above zero, and else names the first that has none
  pub some-above-means : Answers (SomeIsAbove t from to) t.records (some_above_rule t from to)
  unfolding some_above_rule breaks is_above
  some-above-means = answers _ (SomeIsAbove t from to) told t.records
    where
      told : (r : ℕ) → (not (any_field (is_above t r) from to) ≡ false) ↔ SomeIsAbove t from to r
      told r = (
        λ e. (let w = any-shows (is_above t r) from to (not-false _ e) in (w.0, w.1, w.2, is-above (sign_in t r w.0) w.3)),
        λ w. ap not (shown-any (is_above t r) from to w.0 w.1 w.2 (ap above_zero w.3)),
      )

  -- ---- What a run's fields are where none of them is null, and where none is given
  module _ (r : ℕ) where
    all-given-told : (any_field (is_null t.cells t.width r) from to ≡ false) ↔ AllAreGiven t from to r
    unfolding is_null
    all-given-told = (
      λ e k a b. not-false (is_given t.cells t.width r k) (none-shows (is_null t.cells t.width r) from to e k a b),
      λ all. shown-none (is_null t.cells t.width r) from to (λ k a b. ap not (all k a b)),
    )

    none-given-told : (any_field (is_given t.cells t.width r) from to ≡ false) ↔ NoneIsGiven t from to r
    none-given-told = (
      λ e k a b g. never_both g (none-shows (is_given t.cells t.width r) from to e k a b),
      λ none. shown-none (is_given t.cells t.width r) from to (λ k a b. not-true-false (is_given t.cells t.width r k) (none k a b)),
    )

  -- ---- Mark 81 holds exactly if every record gives all fields of the run, and else names the first that does not
  pub all-given-means : Answers (AllAreGiven t from to) t.records (all_given_rule t.cells t.width t.records from to)
  unfolding all_given_rule breaks
  all-given-means = answers _ (AllAreGiven t from to) all-given-told t.records

  -- ---- Marks 82 and 84 hold exactly if no record gives any field of the run, and else name the first that does
  pub none-given-means : Answers (NoneIsGiven t from to) t.records (none_given_rule t.cells t.width t.records from to)
  unfolding none_given_rule breaks
  none-given-means = answers _ (NoneIsGiven t from to) none-given-told t.records

  -- ---- Mark 75 holds exactly if every record has all fields of the run null or none, and else names the first that has not
  module _ (r : ℕ) where
    some-given : Bool
    some-given = any_field (is_given t.cells t.width r) from to

    some-null : Bool
    some-null = any_field (is_null t.cells t.width r) from to

    one-kind : (b : Bool) → some-given ≡ b → (some-given && some-null) ≡ false → AllNullOrNone t from to r
    unfolding some-given some-null
    one-kind true p e = inr ((all-given-told r).0 (rw p at e))
    one-kind false p e = inl ((none-given-told r).0 p)

    and_none : (a b : Bool) → b ≡ false → (a && b) ≡ false
    and_none true b e = e
    and_none false b e = refl

    not-mixed : AllNullOrNone t from to r → (some-given && some-null) ≡ false
    unfolding some-given some-null
    not-mixed =
        ⊎_elim (λ none. rw ((none-given-told r).1 none)) (λ all. and_none some-given some-null ((all-given-told r).1 all))

  pub together-means : Answers (AllNullOrNone t from to) t.records (together_rule t.cells t.width t.records from to)
  unfolding together_rule breaks some-given some-null
  together-means = answers _ (AllNullOrNone t from to) (λ r. (one-kind r (some-given r) refl, not-mixed r)) t.records
