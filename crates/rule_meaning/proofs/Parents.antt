-- What the rules on a record's parent mean, marks 79 and 80.
-- Assumes nothing.
use Prim.Native.Nat.{ℕ, zero, suc, ◌-◌, ◌<◌}
use mathlib.Core.Path.{◌≡◌, refl, sym, ◌∙◌}
use mathlib.Core.Bool.{true, false}
use mathlib.Core.Logic.{◌↔◌}
use mathlib.Core.List.{List}
use native.Mathlib.Decide.{ℕ_discrete}
use native.Mathlib.Numerals.{add-one}
use native.Mathlib.Omega.{arith}
use borrow.Author.Tests.{eq-eqb, ne_eqb, not-false}
use lib.Dec.{eqb}
use Rattle.json_bytes.proofs.Laws.{both_left, both_right}
use Rattle.rule_cells.specs.Cells.{Table, is_given, same_text, is_word}
use Rattle.rule_outline.specs.Outline.{level_one, level_of, parent_of, outline_at, parent_breaks, parent_rule, some_of, is_typed, parent_type_breaks, parent_type_rule}
use Rattle.rule_outline.proofs.Rules.{some-there, some-is-there}
use Rattle.rule_meaning.specs.Keeps.{Answers, HasItsParent, ParentIsTyped}
use Rattle.rule_meaning.proofs.Answers.{answers, not-true-false, never_both}
use Rattle.rule_meaning.proofs.Levels.{level-one}

module _ (t : Table) (level task : ℕ) where
  -- the answer names the first breaking record
  outline-record : (k : ℕ) → (outline_at t level (parent_of t level) k).«record» ≡ k
  unfolding outline_at
  outline-record zero = refl
  outline-record (suc r) = refl

  -- a record is of Level 1, or of another and without a parent, or of another and below record q
  by-parent : (r : ℕ) (P : Type 0) → (level_of t level r ≡ level_one → P) → ((level_of t level r ≡ level_one → ⊥) → parent_of t level r ≡ 0 → P) → ((level_of t level r ≡ level_one → ⊥) → (q : ℕ) → parent_of t level r ≡ suc q → P) → P
  by-parent r P top none some = go (ℕ_discrete (level_of t level r) level_one) (parent_of t level r) refl
    where
      go : Dec (level_of t level r ≡ level_one) → (x : ℕ) → parent_of t level r ≡ x → P
      go (yes e) x p = top e
      go (no n) zero p = none n p
      go (no n) (suc q) p = some n q p

  -- how the rules take a parent, which counts from 1, for record q, which counts from 0
  module _ (r q : ℕ) (e : parent_of t level r ≡ suc q) where
    not_none : eqb (parent_of t level r) 0 ≡ false
    not_none = ne_eqb (parent_of t level r) 0 (omega arith)

    one_less : parent_of t level r - 1 ≡ q
    one_less = omega arith

  -- ---- Mark 79
  module _ (parent r : ℕ) where
    Tests : Type 0
    Tests = (parent_breaks t level task parent (parent_of t level) r ≡ false) ↔ HasItsParent t level task parent r

    -- of Level 1
    at_top : level_of t level r ≡ level_one → Tests
    unfolding parent_breaks Tests
    at_top e =
        let one = eq-eqb (level_of t level r) level_one e in (
          λ b. record { top = λ _ g. never_both g (rw one at b); other = λ n. absurd (n ((level-one t level r).0 e)) },
          λ h. rw one (not-true-false (is_given t.cells t.width r parent) (h.top ((level-one t level r).0 e))),
        )

    -- of any other, without a parent
    without : (level_of t level r ≡ level_one → ⊥) → parent_of t level r ≡ 0 → Tests
    unfolding parent_breaks Tests
    without n e = (
      λ b. absurd (never_both refl (rw (ne_eqb (level_of t level r) level_one n, eq-eqb (parent_of t level r) 0 e) at b)),
      λ h. absurd (omega (arith, (h.other (λ o. n ((level-one t level r).1 o))).1)),
    )

    -- of any other, below record q
    below : (level_of t level r ≡ level_one → ⊥) → (q : ℕ) → parent_of t level r ≡ suc q → Tests
    unfolding parent_breaks Tests
    below n q e = (
      λ b.
          (let both = not-false _ (rw (ne_eqb (level_of t level r) level_one n, not_none r q e, one_less r q e) at b) in
          record {
            top = λ o. absurd (n ((level-one t level r).1 o));
            other = λ _. (q, e ∙ sym (add-one q), both_left _ _ both, both_right (is_given t.cells t.width r parent) _ both);
          }),
      λ h.
          (let w = h.other (λ o. n ((level-one t level r).1 o)) in
          let same : w.0 ≡ q = omega (arith, w.1) in
          rw (ne_eqb (level_of t level r) level_one n, not_none r q e, one_less r q e, w.2, rw same at w.3)),
    )

    tests : Tests
    tests = by-parent r Tests at_top without below

  -- mark 79 holds exactly if every record of Level 1 has null ParentTaskID and every other has a parent and its TaskID, and else
  -- names the first of which that is not so
  pub parent-means : (parent : ℕ) → Answers (HasItsParent t level task parent) t.records (parent_rule t level task parent (parent_of t level)).«record»
  unfolding parent_rule Tests
  parent-means parent = rw outline-record (answers _ (HasItsParent t level task parent) (tests parent) t.records)

  -- ---- Mark 80
  module _ (u : Table) (id type : ℕ) (word : List ℕ) where
    -- some task has the TaskID of record q and the type
    abbrev Typed : ℕ → Type 0
    Typed q = (x : ℕ) × (x < u.records) × (same_text t q task u x id ≡ true) × (is_word u x type word ≡ true)

    some-typed : (q : ℕ) → (some_of (is_typed t q task u id type word) u.records ≡ true) ↔ Typed q
    unfolding is_typed
    some-typed q = (
      λ e.
          (let w = some-is-there _ u.records e in
          (w.0, w.1, both_left _ _ w.2, both_right (same_text t q task u w.0 id) _ w.2)),
      λ w. some-there _ u.records w.0 w.1 (rw (w.2, w.3)),
    )

    module _ (r : ℕ) where
      TypeTests : Type 0
      TypeTests = (parent_type_breaks t level task (parent_of t level) u id type word r ≡ false) ↔ ParentIsTyped t level task u id type word r

      type-below : (level_of t level r ≡ level_one → ⊥) → (q : ℕ) → parent_of t level r ≡ suc q → TypeTests
      unfolding parent_type_breaks TypeTests
      type-below n q e = (
        λ b _ p same.
            (let here : q ≡ p = omega arith in
            let has : some_of (is_typed t q task u id type word) u.records ≡ true = not-false _ (rw (ne_eqb (level_of t level r) level_one n, not_none r q e, one_less r q e) at b) in
            rw here at ((some-typed q).0 has)),
        λ h.
            rw (ne_eqb (level_of t level r) level_one n, not_none r q e, one_less r q e, (some-typed q).1 (h (λ o. n ((level-one t level r).1 o)) q (e ∙ sym (add-one q)))),
      )

      type-tests : TypeTests
      unfolding parent_type_breaks TypeTests
      type-tests =
          by-parent r TypeTests
          (λ e. (λ _ n. absurd (n ((level-one t level r).0 e)), λ _. rw (eq-eqb (level_of t level r) level_one e)))
          (λ n e. (λ _ _ q p. absurd (omega arith), λ _. rw (ne_eqb (level_of t level r) level_one n, eq-eqb (parent_of t level r) 0 e)))
          type-below

    -- mark 80 holds exactly if, for every record of another Level than 1 that has a parent, some task with the parent's TaskID is of
    -- the type, and else names the first for which none is
    pub parent-type-means : Answers (ParentIsTyped t level task u id type word) t.records (parent_type_rule t level task (parent_of t level) u id type word).«record»
    unfolding parent_type_rule TypeTests
    parent-type-means = rw outline-record (answers _ (ParentIsTyped t level task u id type word) type-tests t.records)
