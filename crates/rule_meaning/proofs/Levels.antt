-- What a level run is, mark 78, over the Levels themselves and not over the numbers that the rules order by.
-- Assumes nothing.
use Prim.Native.Nat.{ℕ, zero, suc, ◌+◌, ◌/◌, ◌%◌, ◌^◌, ◌≤◌, ◌<◌}
use mathlib.Core.Path.{◌≡◌, refl, sym, ap}
use mathlib.Core.Bool.{Bool, true, false, cond, not, ◌&&◌}
use mathlib.Core.Logic.{◌↔◌}
use native.Mathlib.Numerals.{add-one}
use native.Mathlib.Omega.{arith}
use borrow.Author.Tests.{eq-eqb, eqb-true, le-leb, leb-true, not-false}
use lib.Dec.{leb, eqb}
use Rattle.json_bytes.proofs.Laws.{by-test, both_left, both_right}
use Rattle.json_number.specs.Number.{largest, magnitude, within_limits, whole_of, integer_of, number_at}
use Rattle.json_number.proofs.Scale.{nonzero, ten-pos}
use Rattle.json_number.specs.declared.Value.{Value}
use Rattle.json_number.specs.declared.Value.TheVariants.{Fits, Beyond}
use Rattle.json_number.specs.declared.Integer.{Integer}
use Rattle.json_number.specs.declared.Integer.TheVariants.{Is, Fraction, TooLarge}
use Rattle.rule_cells.specs.Cells.{Table, is_given, start_of, integer_in}
use Rattle.rule_outline.specs.Outline.{level_zero, level_one, raised, level_of, run_breaks, level_breaks, level_rule}
use Rattle.rule_meaning.specs.Keeps.{Answers, HasLevel, KeepsRun}
use Rattle.rule_meaning.proofs.Answers.{answers, never_both}

-- ---- A Level as the rules order it, ten to the fifteenth more, and as the Integer that it is
-- no Integer is a zero below zero
whole-signed : (negative : Bool) (c p : ℕ) {m : ℕ} → whole_of negative c p ≡ Is true m → 0 < m
unfolding whole_of
whole-signed negative c p {m} h =
    by-test Then (within_limits c p) _ _
    (λ w.
    by-test Then (eqb (magnitude c p % 10 ^ 15) 0) _ _
    (λ r.
    by-test Then (leb (magnitude c p / 10 ^ 15) largest) _ _
    (λ l q.
    let size : magnitude c p / 10 ^ 15 ≡ m = cc in
    let sign : cond (eqb c 0) false negative ≡ true = cc in
    let rest : magnitude c p % 10 ^ 15 ≡ 0 = eqb-true (magnitude c p % 10 ^ 15) 0 r in
    let some : magnitude c p ≡ 0 → ⊥ = nonzero c (10 ^ p) (signed-some c sign) (ten-pos p refl) in
    omega arith)
    (λ l. none))
    (λ r q.
    let z : ◌≡◌ {A = ℕ} 0 1 = cc in
    absurd (omega arith)))
    (λ w. none)
    h
  where
    Then : Integer → Type 0
    Then x = x ≡ Is true m → 0 < m

    none : Then TooLarge
    none q =
        let z : ◌≡◌ {A = ℕ} 0 1 = cc in
        absurd (omega arith)

    signed-some : (d : ℕ) → cond (eqb d 0) false negative ≡ true → d ≡ 0 → ⊥
    signed-some d e z = never_both e (rw (eq-eqb d 0 z))

value-signed : (v : Value) {m : ℕ} → integer_of v ≡ Is true m → 0 < m
unfolding integer_of
value-signed (Fits negative c p) h = whole-signed negative c p h
value-signed Beyond h =
    let z : ◌≡◌ {A = ℕ} 0 1 = cc in
    absurd (omega arith)

integer-signed : (t : Table) (r k : ℕ) {m : ℕ} → integer_in t r k ≡ Is true m → 0 < m
unfolding integer_in
integer-signed t r k {m} h =
    by-test (λ (x : Integer). x ≡ Is true m → 0 < m) (is_given t.cells t.width r k) _ _
    (λ g. value-signed (number_at t.bytes (start_of t.cells t.width r k)).value)
    (λ g q.
    let z : ◌≡◌ {A = ℕ} 0 1 = cc in
    absurd (omega arith))
    h

-- so what is not below zero is a whole number
raised-from : (x : Integer) → ((m : ℕ) → x ≡ Is true m → 0 < m) → level_zero ≤ raised x → (l : ℕ) × (x ≡ Is false l) × (raised x ≡ level_zero + l)
unfolding raised
raised-from (Is true m) s h = absurd (omega (arith, s m refl))
raised-from (Is false m) s h = (m, refl, refl)
raised-from Fraction s h = absurd (omega arith)
raised-from TooLarge s h = absurd (omega arith)

module _ (t : Table) (level : ℕ) where
  pub level-from : (r : ℕ) → level_zero ≤ level_of t level r → (l : ℕ) × HasLevel t level r l × (level_of t level r ≡ level_zero + l)
  unfolding level_of
  level-from r = raised-from (integer_in t r level) (λ m. integer-signed t r level)

  pub level-is : (r l : ℕ) → HasLevel t level r l → level_of t level r ≡ level_zero + l
  unfolding level_of raised
  level-is r l e = rw e

  -- ---- Mark 78
  first-keeps : (level_breaks (level_of t level) 0 ≡ false) ↔ KeepsRun t level 0
  unfolding level_breaks
  first-keeps = (
    λ e.
        let one : level_of t level 0 ≡ level_one = eqb-true (level_of t level 0) level_one (not-false _ e) in
        let w = level-from 0 (omega arith) in
        record {
          l = w.0;
          here = w.1;
          least = omega (arith, w.2);
          first = λ _. omega (arith, w.2);
          later = λ q z. absurd (omega arith);
        },
    λ k.
        let one : level_of t level 0 ≡ level_one = omega (arith, level-is 0 k.l k.here, k.first refl) in
        ap not (eq-eqb (level_of t level 0) level_one one),
  )

  -- a Level that the test lets pass behind the one before
  kept : (r : ℕ) → level_one ≤ level_of t level (suc r) → level_of t level (suc r) ≤ level_of t level r + 1 → KeepsRun t level (suc r)
  kept r least most =
      let w = level-from (suc r) (omega arith) in
      let v = level-from r (omega arith) in
      record {
        l = w.0;
        here = w.1;
        least = omega (arith, w.2);
        first = λ z. absurd (omega arith);
        later = λ q z. (
          v.0,
          moved q v.0 (omega arith) v.1,
          omega (arith, v.2, w.2),
        );
      }
    where
      moved : (q b : ℕ) → r ≡ q → HasLevel t level r b → HasLevel t level q b
      moved q b z h = rw z at h

  later-keeps : (r : ℕ) → (level_breaks (level_of t level) (suc r) ≡ false) ↔ KeepsRun t level (suc r)
  unfolding level_breaks run_breaks
  later-keeps r = (
    λ e. (let both = not-false (leb level_one (level_of t level (suc r)) && leb (level_of t level (suc r)) (level_of t level r + 1)) e in
        kept r (leb-true _ _ (both_left _ _ both)) (leb-true _ _ (both_right (leb level_one (level_of t level (suc r))) _ both))),
    λ k. (let v = k.later r (sym (add-one r)) in
        let here = level-is (suc r) k.l k.here in
        let before = level-is r v.0 v.1 in
        rw (le-leb level_one (level_of t level (suc r)) (omega (arith, k.least)), le-leb (level_of t level (suc r)) (level_of t level r + 1) (omega (arith, v.2)))),
  )

  keeps : (r : ℕ) → (level_breaks (level_of t level) r ≡ false) ↔ KeepsRun t level r
  keeps zero = first-keeps
  keeps (suc r) = later-keeps r

  -- mark 78 holds exactly if the first Level is 1, every Level is at least 1 and each is at most one more than the one before, and
  -- else names the first record of which that is not so
  pub level-run-means : Answers (KeepsRun t level) t.records (level_rule t level)
  unfolding level_rule
  level-run-means = answers (level_breaks (level_of t level)) (KeepsRun t level) keeps t.records

  -- ---- A Level of 1, as marks 79 and 80 ask for it
  pub level-one : (r : ℕ) → (level_of t level r ≡ level_one) ↔ HasLevel t level r 1
  level-one r = (
    λ e. (let w = level-from r (omega arith) in
        let one : w.0 ≡ 1 = omega (arith, w.2) in
        rw one at w.1),
    λ h. level-is r 1 h,
  )
