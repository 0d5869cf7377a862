-- Two strings side by side, byte by byte: what a pair of bytes tells, one turn of a run of pairs, and what holds where it ends.
-- Assumes nothing.
use Prim.Native.Nat.{ℕ, ◌+◌, ◌-◌, ◌≤◌, ◌<◌, min}
use mathlib.Core.Path.{◌≡◌, refl, sym, ap, ◌∙◌}
use mathlib.Core.Bool.{Bool, true, false, cond, ◌&&◌}
use mathlib.Core.List.{List, [], ◌∷◌}
use native.Mathlib.Numerals.{add-one}
use native.Mathlib.Omega.{arith}
use borrow.Author.Tests.{eqb-true, eqb-false, ltb-true, ltb-false}
use borrow.Author.Rules.{part_to_end}
use lib.ListN.{length, take, drop, length-drop, drop_of_length-le}
use lib.Seq.{drop-cons}
use lib.Dec.{eqb, ltb}
use Rattle.json_bytes.specs.Reads.{byte_at}
use Rattle.json_bytes.proofs.Laws.{both_left, both_right}
use Rattle.json_same.specs.declared.Case.{Case}
use Rattle.json_same.specs.declared.Pair.{Pair}
use Rattle.json_same.specs.declared.Pair.TheVariants.{Same, Apart, Other}
use Rattle.json_same.specs.Same.{cased_as, is_plain}
use Rattle.std.specs.Prelude.{Option, Some, None}
use Rattle.json_same.specs.Walk.{pair_of, run_from}

-- ---- a pair
same_by : (t u : Bool) → cond t (cond u Same Apart) Other ≡ Same → (t ≡ true) × (u ≡ true)
same_by true true e = (refl, refl)
same_by true false e = (cc, cc)
same_by false u e = (cc, cc)

apart_by : (t u : Bool) → cond t (cond u Same Apart) Other ≡ Apart → (t ≡ true) × (u ≡ false)
apart_by true true e = (cc, cc)
apart_by true false e = (refl, refl)
apart_by false u e = (cc, cc)

-- two bytes that stand for themselves, and are the same or not as they are compared
pub record Plain (p q : ℕ) (T : Type 0) : Type 0 where
  pub one : is_plain p ≡ true
  pub other : is_plain q ≡ true
  pub compared : T

module _ (case : Case) (p q : ℕ) where
  pub same-told : pair_of case p q ≡ Same → Plain p q (cased_as case p ≡ cased_as case q)
  unfolding pair_of
  same-told e =
      let told : ((is_plain p && is_plain q) ≡ true) × (eqb (cased_as case p) (cased_as case q) ≡ true) = same_by _ _ e in
      record { one = both_left _ _ told.0; other = both_right (is_plain p) _ told.0; compared = eqb-true _ _ told.1 }

  pub apart-told : pair_of case p q ≡ Apart → Plain p q (cased_as case p ≡ cased_as case q → ⊥)
  unfolding pair_of
  apart-told e =
      let told : ((is_plain p && is_plain q) ≡ true) × (eqb (cased_as case p) (cased_as case q) ≡ false) = apart_by _ _ e in
      record { one = both_left _ _ told.0; other = both_right (is_plain p) _ told.0; compared = eqb-false _ _ told.1 }

-- ---- one turn
module _ (case : Case) (s t : List ℕ) (k : ℕ) where
  pub run_ends : min (length s) (length t) ≤ k → run_from case k (drop k s) (drop k t) ≡ Some k
  unfolding run_from
  run_ends h = by (ltb (length s) (length t)) refl
    where
      go : (ps : List ℕ) → run_from case k ps [] ≡ Some k
      go [] = refl
      go (p ∷ ps) = refl

      by : (b : Bool) → ltb (length s) (length t) ≡ b → run_from case k (drop k s) (drop k t) ≡ Some k
      by true e = rw (drop_of_length-le s {i = k} (omega (arith, h, ltb-true _ _ e)))
      by false e = rw (drop_of_length-le t {i = k} (omega (arith, h, ltb-false _ _ e))) (go (drop k s))

  module _ (l : k < length s) (m : k < length t) (p q : ℕ) (first : p ≡ byte_at s k) (second : q ≡ byte_at t k) (o : Pair) (told : o ≡ pair_of case p q) where
    here : pair_of case (byte_at s k) (byte_at t k) ≡ o
    here = rw (← first, ← second) (sym told)

    pub run_more : o ≡ Same → run_from case k (drop k s) (drop k t) ≡ run_from case (k + 1) (drop (k + 1) s) (drop (k + 1) t)
    unfolding run_from
    run_more e = rw (drop-cons s k 0 l, drop-cons t k 0 m, here ∙ e, run_from, add-one k)

    pub run-differs : o ≡ Apart → run_from case k (drop k s) (drop k t) ≡ None
    unfolding run_from
    run-differs e = rw (drop-cons s k 0 l, drop-cons t k 0 m, here ∙ e, run_from)

    pub run-stops : o ≡ Other → run_from case k (drop k s) (drop k t) ≡ Some k
    unfolding run_from
    run-stops e = rw (drop-cons s k 0 l, drop-cons t k 0 m, here ∙ e, run_from)

-- ---- where a run ends
-- what is left from a place on, byte by byte
first-left : (s : List ℕ) (k p : ℕ) (ps : List ℕ) → drop k s ≡ p ∷ ps → (k < length s) × (p ≡ byte_at s k) × (drop (k + 1) s ≡ ps)
first-left s k p ps e =
    let l : k < length s = omega (arith, length-drop k s, ap length e) in
    let f : byte_at s k ∷ drop (k + 1) s ≡ p ∷ ps = rw add-one (sym (drop-cons s k 0 l) ∙ e) in
    (l, cc, cc)

-- what a run leads to, by its end: W behind the bytes that were passed, or Z
unfoldable Ahead : (ℕ → Type 0) → Type 0 → Option ℕ → Type 0
Ahead W Z None = Z
Ahead W Z (Some n) = W n

-- two places of a run, and what the bytes there tell
pub record At (case : Case) (a : List ℕ) (u : ℕ) (b : List ℕ) (v : ℕ) (o : Pair) : Type 0 where
  pub one : u < length a
  pub other : v < length b
  pub told : pair_of case (byte_at a u) (byte_at b v) ≡ o

-- a run from x and y on, where W holds: each pair that is the same hands W on, and one that is apart gives Z
module _ (case : Case) (a : List ℕ) (x : ℕ) (b : List ℕ) (y : ℕ) (W : ℕ → ℕ → Type 0) (Z : Type 0)
    (more : (u v : ℕ) → At case a u b v Same → W u v → W (u + 1) (v + 1)) (last : (u v : ℕ) → At case a u b v Apart → W u v → Z) (w : W x y) where
  ahead : (ps qs : List ℕ) (k u v : ℕ) → u ≡ x + k → v ≡ y + k → drop u a ≡ ps → drop v b ≡ qs → W u v → Ahead (λ n. W (x + n) (y + n)) Z (run_from case k ps qs)
  unfolding run_from Ahead
  ahead [] qs k u v i j d e w = rw (i, j) at w
  ahead (p ∷ ps) [] k u v i j d e w = rw (i, j) at w
  ahead (p ∷ ps) (q ∷ qs) k u v i j d e w =
      let f : (u < length a) × (p ≡ byte_at a u) × (drop (u + 1) a ≡ ps) = first-left a u p ps d in
      let g : (v < length b) × (q ≡ byte_at b v) × (drop (v + 1) b ≡ qs) = first-left b v q qs e in
      let at : (o : Pair) → pair_of case p q ≡ o → At case a u b v o = λ o t. record { one = f.0; other = g.0; told = rw (← f.1, ← g.1) t } in
      go (pair_of case p q)
      (λ t. ahead ps qs (k + 1) (u + 1) (v + 1) (omega arith) (omega arith) f.2 g.2 (more u v (at Same t) w))
      (λ t. last u v (at Apart t) w)
      (rw (i, j) at w)
    where
      go : (o : Pair) → (o ≡ Same → Ahead (λ n. W (x + n) (y + n)) Z (run_from case (k + 1) ps qs)) → (o ≡ Apart → Z) → W (x + k) (y + k) → Ahead (λ n. W (x + n) (y + n)) Z (elim o [ Same ↦ run_from case (k + 1) ps qs | Apart ↦ None | Other ↦ Some k ])
      go Same f g h = f refl
      go Apart f g h = g refl
      go Other f g h = h

  module _ (r : Option ℕ) (is : r ≡ run_from case 0 (take (length a - x) (drop x a)) (take (length b - y) (drop y b))) where
    led : Ahead (λ n. W (x + n) (y + n)) Z r
    led = rw (is, part_to_end a x, part_to_end b y) (ahead (drop x a) (drop y b) 0 x y (omega arith) (omega arith) refl refl w)

    pub run_on : (n : ℕ) → r ≡ Some n → W (x + n) (y + n)
    unfolding Ahead
    run_on n e = rw e at led

    pub run-parts : r ≡ None → Z
    unfolding Ahead
    run-parts e = rw e at led
