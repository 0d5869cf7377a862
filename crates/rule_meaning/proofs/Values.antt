-- What the rules on one field mean: enumerations, null unless, given if, given unless and targets; and what it is to meet
-- a condition.
-- Assumes nothing.
use Prim.Native.Nat.{ℕ, zero, suc, ◌+◌, ◌<◌}
use mathlib.Core.Path.{◌≡◌, refl, sym, ap, ◌∙◌}
use mathlib.Core.Bool.{Bool, true, false, not, ◌&&◌, ◌||◌}
use mathlib.Core.Logic.{◌↔◌, ◌⊎◌, inl, inr, ⊎_elim}
use mathlib.Core.List.{List}
use native.Mathlib.Nat.{add-zero}
use native.Mathlib.Omega.{arith}
use borrow.Author.Tests.{not-false, eq-eqb, ne_eqb, eqb-false}
use lib.Dec.{eqb}
use Rattle.rule_cells.specs.Cells.{Table, table, is_given, is_true, is_word, text_of, same_text}
use Rattle.rule_when.specs.When.{is_value, holds_when}
use Rattle.rule_when.specs.declared.When.{When}
use Rattle.rule_value.specs.Value.{is_one_of, agrees, breaks_field, field_rule}
use Rattle.rule_value.specs.declared.FieldRule.TheVariants.{OneOf, NullUnless, GivenIf}
use Rattle.rule_target.specs.Target.{target_of, breaks_target, target_rule}
use Rattle.rule_target.proofs.Laws.{has-target, is-target}
use Rattle.rule_meaning.specs.Keeps.{Answers, Given, Meets, HasItsValue, IsNullUnless, IsGivenIf, IsGivenUnless, HasItsTarget}
use Rattle.rule_meaning.proofs.Answers.{answers, not-false-true, not-true-false, never_both}

-- ---- Tests and what they say
-- "a and not b" fails exactly if b follows from a
and-not : (a b : Bool) → ((a && not b) ≡ false) ↔ (a ≡ true → b ≡ true)
and-not true b = (λ e h. not-false b e, λ h. ap not (h refl))
and-not false b = (λ e h. absurd (never_both h refl), λ h. refl)

-- "not a, and b" fails exactly if a follows from b
not-and : (a b : Bool) → ((not a && b) ≡ false) ↔ (b ≡ true → a ≡ true)
not-and true b = (λ e h. refl, λ h. refl)
not-and false b = (λ e h. absurd (never_both h e), λ h. not-true-false b (λ e. never_both (h e) refl))

-- three tests in a row fail exactly if the last does where the others pass
pub and-and : (a b c : Bool) → ((a && (b && c)) ≡ false) ↔ (a ≡ true → b ≡ true → c ≡ false)
and-and true true c = (λ e _ _. e, λ h. h refl refl)
and-and true false c = (λ e _ h. absurd (never_both h refl), λ h. refl)
and-and false b c = (λ e h _. absurd (never_both h refl), λ h. refl)

-- what does not hold is false, and "not" holds of it
fails : (b : Bool) → (not b ≡ true) ↔ (b ≡ true → ⊥)
fails true = (λ e h. never_both e refl, λ h. absurd (h refl))
fails false = (λ e h. never_both h refl, λ h. refl)

-- ---- Enumerations
module _ (t : Table) (r k : ℕ) (places texts : List ℕ) where
  one-is : (n v : ℕ) → is_one_of t r k places texts n v ≡ true → (j : ℕ) × (j < n) × (is_value t r k places texts (v + j) ≡ true)
  unfolding is_one_of
  one-is zero v e = absurd (never_both e refl)
  one-is (suc n) v e = go (is_value t r k places texts v) refl (one-is n (suc v))
    where
      go : (b : Bool) → is_value t r k places texts v ≡ b → (is_one_of t r k places texts n (suc v) ≡ true → (j : ℕ) × (j < n) × (is_value t r k places texts (suc v + j) ≡ true)) → (j : ℕ) × (j < suc n) × (is_value t r k places texts (v + j) ≡ true)
      go true h rest = (0, omega arith, ap (is_value t r k places texts) (add-zero v) ∙ h)
      go false h rest =
          let w = rest (rw (h, is_one_of) at e) in
          let moved : v + suc w.0 ≡ suc v + w.0 = omega arith in
          (suc w.0, omega (arith, w.1), ap (is_value t r k places texts) moved ∙ w.2)

  is_one : (n v j : ℕ) → j < n → is_value t r k places texts (v + j) ≡ true → is_one_of t r k places texts n v ≡ true
  unfolding is_one_of
  is_one zero v j l e = absurd (omega arith)
  is_one (suc n) v j l e = go (is_value t r k places texts v) refl j l e (is_one n (suc v))
    where
      go : (b : Bool) → is_value t r k places texts v ≡ b → (j : ℕ) → j < suc n → is_value t r k places texts (v + j) ≡ true → ((i : ℕ) → i < n → is_value t r k places texts (suc v + i) ≡ true → is_one_of t r k places texts n (suc v) ≡ true) → is_one_of t r k places texts (suc n) v ≡ true
      go true h j l e rest = rw (h, is_one_of)
      go false h zero l e rest = absurd (never_both (sym (ap (is_value t r k places texts) (add-zero v)) ∙ e) h)
      go false h (suc i) l e rest =
          let moved : suc v + i ≡ v + suc i = omega arith in
          rw (h, is_one_of) (rest i (omega arith) (ap (is_value t r k places texts) moved ∙ e))

-- ---- The rules on field k
module _ (t : Table) (k : ℕ) (places texts : List ℕ) where
  -- marks 36 to 47 hold exactly if every value that is given is one of its enumeration's, A–Z folded, and else name the first
  -- record whose value is not
  pub enumeration-means : (v n : ℕ) → Answers (HasItsValue t k v n places texts) t.records (field_rule t k (OneOf v n) places texts)
  unfolding field_rule breaks_field is_value is_word text_of
  enumeration-means v n = answers _ (HasItsValue t k v n places texts) told t.records
    where
      told : (r : ℕ) → (breaks_field (table t.bytes t.cells t.width 0) k (OneOf v n) places texts r ≡ false) ↔ HasItsValue t k v n places texts r
      told r =
          let u : Table = table t.bytes t.cells t.width 0 in
          let b = and-not (is_given t.cells t.width r k) (is_one_of u r k places texts n v) in
          (λ e g. one-is u r k places texts n v (b.0 e g), λ h. b.1 (λ g. is_one u r k places texts n v (h g).0 (h g).1 (h g).2))

  -- marks 65, 66, 72 and 76 hold exactly if every record that does not meet the condition has null there, and else name the first
  -- that has not
  pub null-unless-means : (w : When) → Answers (IsNullUnless t k w places texts) t.records (field_rule t k (NullUnless w) places texts)
  unfolding field_rule breaks_field holds_when is_true is_value is_word text_of
  null-unless-means w = answers _ (IsNullUnless t k w places texts) told t.records
    where
      told : (r : ℕ) → (breaks_field (table t.bytes t.cells t.width 0) k (NullUnless w) places texts r ≡ false) ↔ IsNullUnless t k w places texts r
      told r =
          let b = and-not (is_given t.cells t.width r k) (holds_when t r w places texts) in
          (λ e n g. n (b.0 e g), λ h. b.1 (λ g. not-false-true (holds_when t r w places texts) (λ f. h (λ m. never_both m f) g)))

  -- mark 71 holds exactly if every record that meets the condition gives the field, and else names the first that does not
  pub given-if-means : (w : When) → Answers (IsGivenIf t k w places texts) t.records (field_rule t k (GivenIf w true) places texts)
  unfolding field_rule breaks_field agrees holds_when is_true is_value is_word text_of
  given-if-means w =
      answers _ (IsGivenIf t k w places texts)
      (λ r. not-and (is_given t.cells t.width r k) (holds_when t r w places texts))
      t.records

  -- mark 77 holds exactly if every record that does not meet the condition gives the field, and else names the first that does not
  pub given-unless-means : (w : When) → Answers (IsGivenUnless t k w places texts) t.records (field_rule t k (GivenIf w false) places texts)
  unfolding field_rule breaks_field agrees holds_when is_true is_value is_word text_of
  given-unless-means w = answers _ (IsGivenUnless t k w places texts) told t.records
    where
      told : (r : ℕ) → (breaks_field (table t.bytes t.cells t.width 0) k (GivenIf w false) places texts r ≡ false) ↔ IsGivenUnless t k w places texts r
      told r =
          let b = not-and (is_given t.cells t.width r k) (not (holds_when t r w places texts)) in
          let f = fails (holds_when t r w places texts) in
          (λ e n. b.0 e (f.1 n), λ h. b.1 (λ n. h (f.0 n)))

  -- marks 48 to 64, 67, 73 and 74 hold exactly if every value that is given, in a record that meets the condition, is the value of
  -- some target record, and else name the first record whose value is none's
  pub target-means : (w : When) (u : Table) (m : ℕ) → Answers (HasItsTarget t k w u m places texts) t.records (target_rule t k w u m places texts)
  unfolding target_rule breaks_target holds_when is_true is_value is_word same_text text_of
  target-means w u m = answers _ (HasItsTarget t k w u m places texts) told t.records
    where
      text : ℕ → List ℕ
      text r = text_of t r k

      some : (r x : ℕ) → target_of (text r) u m ≡ x → eqb x 0 ≡ false → (q : ℕ) × (q < u.records) × (same_text t r k u q m ≡ true)
      some r zero e f = absurd (eqb-false 0 0 f refl)
      some r (suc q) e f =
          let g = is-target (text r) u m q e in
          (q, omega (arith, g.inside), g.here)

      told : (r : ℕ) → (breaks_target (table t.bytes t.cells t.width 0) k w u m places texts r ≡ false) ↔ HasItsTarget t k w u m places texts r
      told r =
          let b = and-and (is_given t.cells t.width r k) (holds_when t r w places texts) (eqb (target_of (text r) u m) 0) in (
            λ e g h. some r (target_of (text r) u m) refl (b.0 e g h),
            λ has. b.1 (λ g h. ne_eqb (target_of (text r) u m) 0 (has-target (text r) u m (has g h).0 (has g h).1 (has g h).2)),
          )

-- ---- Conditions, by their kind
one_passes : {a b : Bool} → a ≡ b → (a ≡ true) ↔ (b ≡ true)
one_passes e = (λ h. sym e ∙ h, λ h. e ∙ h)

either-passes : (a b : Bool) → ((a || b) ≡ true) ↔ ((a ≡ true) ⊎ (b ≡ true))
either-passes true b = (λ e. inl refl, λ h. refl)
either-passes false b = (λ e. inr e, λ h. ⊎_elim (λ e. absurd (never_both e refl)) (λ e. e) h)

module _ (t : Table) (w : When) (places texts : List ℕ) (r : ℕ) where
  -- every record meets the condition of kind 0
  pub always-met : w.kind ≡ 0 → Meets t w places texts r
  unfolding holds_when
  always-met e = rw (eq-eqb w.kind 0 e)

  -- kind 1: the field is given
  pub met-if-given : w.kind ≡ 1 → Meets t w places texts r ↔ Given t w.field r
  unfolding holds_when
  met-if-given e = one_passes (rw (ne_eqb w.kind 0 (omega arith), eq-eqb w.kind 1 e))

  -- kind 2: the field is the Boolean `true`
  pub met-if-true : w.kind ≡ 2 → Meets t w places texts r ↔ (is_true t r w.field ≡ true)
  unfolding holds_when
  met-if-true e = one_passes (rw (ne_eqb w.kind 0 (omega arith), ne_eqb w.kind 1 (omega arith), eq-eqb w.kind 2 e))

  -- any other kind: the field is the condition's first value or its second
  pub met-if-one-of-two : 2 < w.kind → Meets t w places texts r ↔ ((is_value t r w.field places texts w.first ≡ true) ⊎ (is_value t r w.field places texts w.second ≡ true))
  unfolding holds_when
  met-if-one-of-two l =
      rw (ne_eqb w.kind 0 (omega arith), ne_eqb w.kind 1 (omega arith), ne_eqb w.kind 2 (omega arith))
      (either-passes (is_value t r w.field places texts w.first) (is_value t r w.field places texts w.second))
