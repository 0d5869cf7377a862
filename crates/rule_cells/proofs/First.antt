-- The first record that breaks is one that breaks with none before it, and there is none exactly if none breaks.
-- Assumes nothing.
use Prim.Native.Nat.{ℕ, zero, suc, ◌+◌, ◌≤◌, ◌<◌}
use mathlib.Core.Path.{◌≡◌, refl, ap}
use mathlib.Core.Bool.{Bool, true, false}
use mathlib.Core.Logic.{◌↔◌}
use native.Mathlib.Decide.{ℕ_discrete}
use native.Mathlib.Omega.{arith}
use Rattle.rule_cells.specs.Cells.{first_from, first_that}

-- of the n records from record i on, record r is the first that breaks
pub record First (breaks : ℕ → Bool) (n i r : ℕ) : Type 0 where
  pub from : i ≤ r
  pub inside : r < i + n
  pub here : breaks r ≡ true
  pub before : (j : ℕ) → i ≤ j → j < r → breaks j ≡ false

module _ (breaks : ℕ → Bool) where
  -- none from i on, seen at i and from the next on
  none-again : (n i : ℕ) → breaks i ≡ false → ((j : ℕ) → suc i ≤ j → j < suc i + n → breaks j ≡ false) → (j : ℕ) → i ≤ j → j < i + suc n → breaks j ≡ false
  none-again n i e rest j l u = go (ℕ_discrete i j)
    where
      go : Dec (i ≡ j) → breaks j ≡ false
      go (yes p) = rw (← p) e
      go (no p) = rest j (omega arith) (omega arith)

  first-again : (n i r : ℕ) → breaks i ≡ false → First breaks n (suc i) r → First breaks (suc n) i r
  first-again n i r e f = record {
    from = omega (arith, f.from);
    inside = omega (arith, f.inside);
    here = f.here;
    before = λ j l u. go j l u (ℕ_discrete i j);
  }
    where
      go : (j : ℕ) → i ≤ j → j < r → Dec (i ≡ j) → breaks j ≡ false
      go j l u (yes p) = rw (← p) e
      go j l u (no p) = f.before j (omega arith) u

  from_found : (n i r : ℕ) → first_from breaks n i ≡ suc r → First breaks n i r
  unfolding first_from
  from_found zero i r e = absurd (omega (arith, e))
  from_found (suc n) i r e = go (from_found n (suc i) r) (breaks i) refl
    where
      go : (first_from breaks n (suc i) ≡ suc r → First breaks n (suc i) r) → (b : Bool) → breaks i ≡ b → First breaks (suc n) i r
      go rest true p =
          let q : suc i ≡ suc r = rw (p, first_from) at e in
          let z : i ≡ r = omega arith in
          record {
            from = omega arith;
            inside = omega arith;
            here = rw (← z) p;
            before = λ j l u. absurd (omega arith);
          }
      go rest false p = first-again n i r p (rest (rw (p, first_from) at e))

  pub from-none : (n i : ℕ) → first_from breaks n i ≡ 0 → (j : ℕ) → i ≤ j → j < i + n → breaks j ≡ false
  unfolding first_from
  from-none zero i e = λ j l u. absurd (omega arith)
  from-none (suc n) i e = go (from-none n (suc i)) (breaks i) refl
    where
      go : (first_from breaks n (suc i) ≡ 0 → (j : ℕ) → suc i ≤ j → j < suc i + n → breaks j ≡ false) → (b : Bool) → breaks i ≡ b → (j : ℕ) → i ≤ j → j < i + suc n → breaks j ≡ false
      go rest true p =
          let q : suc i ≡ 0 = rw (p, first_from) at e in
          absurd (omega arith)
      go rest false p = none-again n i p (rest (rw (p, first_from) at e))

  none_from : (n i : ℕ) → ((j : ℕ) → i ≤ j → j < i + n → breaks j ≡ false) → first_from breaks n i ≡ 0
  unfolding first_from
  none_from zero i h = refl
  none_from (suc n) i h = rw (h i (omega arith) (omega arith), first_from) (none_from n (suc i) (λ j l u. h j (omega arith) (omega arith)))

  found_from : (n i r : ℕ) → First breaks n i r → first_from breaks n i ≡ suc r
  unfolding first_from
  found_from zero i r f = absurd (omega (arith, f.from, f.inside))
  found_from (suc n) i r f = go (found_from n (suc i) r) (ℕ_discrete i r)
    where
      go : (First breaks n (suc i) r → first_from breaks n (suc i) ≡ suc r) → Dec (i ≡ r) → first_from breaks (suc n) i ≡ suc r
      go rest (yes p) =
          let q : breaks i ≡ true = rw p f.here in
          rw (q, first_from) (ap suc p)
      go rest (no p) =
          rw (f.before i (omega arith) (omega (arith, f.from)), first_from)
          (rest (record {
            from = omega (arith, f.from);
            inside = omega (arith, f.inside);
            here = f.here;
            before = λ j l u. f.before j (omega arith) u;
          }))

  -- ---- of all n records
  pub first_found : (n r : ℕ) → first_that breaks n ≡ suc r → First breaks n 0 r
  unfolding first_that
  first_found n r = from_found n 0 r

  pub found_first : (n r : ℕ) → First breaks n 0 r → first_that breaks n ≡ suc r
  unfolding first_that
  found_first n r = found_from n 0 r

  pub first-none : (n : ℕ) → first_that breaks n ≡ 0 → (j : ℕ) → j < n → breaks j ≡ false
  unfolding first_that
  first-none n e j l = from-none n 0 e j (omega arith) (omega arith)

  pub none_first : (n : ℕ) → ((j : ℕ) → j < n → breaks j ≡ false) → first_that breaks n ≡ 0
  unfolding first_that
  none_first n h = none_from n 0 (λ j l u. h j (omega arith))

  -- no record breaks exactly if the first that does is none
  pub first-is-none : (n : ℕ) → (first_that breaks n ≡ 0) ↔ ((r : ℕ) → r < n → breaks r ≡ false)
  first-is-none n = (first-none n, none_first n)
