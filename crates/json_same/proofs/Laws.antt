-- Sameness of strings is equality of their characters as they are compared; so, folded or not, it is an equivalence.
-- Assumes nothing.
use Prim.Native.Nat.{ℕ}
use mathlib.Core.Path.{◌≡◌, refl, sym, ◌∙◌}
use mathlib.Core.Bool.{true}
use mathlib.Core.List.{List, [], ◌∷◌, map}
use borrow.Author.Tests.{eq-eqb, eqb-true}
use lib.Dec.{eqb}
use Rattle.json_bytes.proofs.Laws.{both_left, both_right}
use Rattle.json_same.specs.declared.Case.{Case}
use Rattle.json_same.specs.Same.{cased_as, same_list, same_as}

pub same-equal : (xs ys : List ℕ) → same_list xs ys ≡ true → xs ≡ ys
unfolding same_list
same-equal [] [] e = refl
same-equal [] (y ∷ ys) e = cc
same-equal (x ∷ xs) [] e = cc
same-equal (x ∷ xs) (y ∷ ys) e =
    let p : x ≡ y = eqb-true x y (both_left (eqb x y) (same_list xs ys) e) in
    let q : xs ≡ ys = same-equal xs ys (both_right (eqb x y) (same_list xs ys) e) in
    cc

pub equal-same : (xs ys : List ℕ) → xs ≡ ys → same_list xs ys ≡ true
unfolding same_list
equal-same xs ys e = rw (← e) (same xs)
  where
    same : (xs : List ℕ) → same_list xs xs ≡ true
    same [] = refl
    same (x ∷ xs) = rw (eq-eqb x x refl) (same xs)

module _ (case : Case) where
  pub same-cased : (xs ys : List ℕ) → same_as case xs ys ≡ true → map (cased_as case) xs ≡ map (cased_as case) ys
  unfolding same_as
  same-cased xs ys e = same-equal (map (cased_as case) xs) (map (cased_as case) ys) e

  pub cased-same : (xs ys : List ℕ) → map (cased_as case) xs ≡ map (cased_as case) ys → same_as case xs ys ≡ true
  unfolding same_as
  cased-same xs ys e = equal-same (map (cased_as case) xs) (map (cased_as case) ys) e

  pub same_refl : (xs : List ℕ) → same_as case xs xs ≡ true
  same_refl xs = cased-same xs xs refl

  pub same-sym : (xs ys : List ℕ) → same_as case xs ys ≡ true → same_as case ys xs ≡ true
  same-sym xs ys e = cased-same ys xs (sym (same-cased xs ys e))

  pub same-trans : (xs ys zs : List ℕ) → same_as case xs ys ≡ true → same_as case ys zs ≡ true → same_as case xs zs ≡ true
  same-trans xs ys zs e f = cased-same xs zs (same-cased xs ys e ∙ same-cased ys zs f)
