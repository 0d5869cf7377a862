-- Files that stand apart, over two lists: with one of them placed anew, and moved down.
-- Assumes nothing.
use Prim.Native.Nat.{ℕ, zero, suc, ◌+◌, ◌-◌, ◌≤◌, ◌<◌}
use mathlib.Core.Path.{◌≡◌, refl, sym, ap, ◌∙◌}
use mathlib.Core.Bool.{Bool, true, false, cond}
use mathlib.Core.Logic.{◌⊎◌, inl, inr, ⊎_elim}
use mathlib.Core.List.{List}
use native.Mathlib.Omega.{arith}
use borrow.Author.Tests.{eqb-true, eqb-false, ne_eqb}
use lib.ListN.{length, get_or, set, take, drop, take-append-drop, length-drop}
use lib.Seq.{get_or-set_same, get_or-set_other, take-add, length-take-le}
use lib.Dec.{eqb}
use Rattle.json_bytes.proofs.Laws.{by-test}
use Rattle.bundle_bytes.specs.Pieces.{written}
use Rattle.bundle_bytes.proofs.Laws.{written-fits}
use Rattle.bundle_layout.specs.Bundle.{header_size}
use Rattle.drawer_layout.specs.Places.{is_free, is_in_way, first_free, lowest_gap, comes_before, length_before, all_lengths, moved_to, places_moved_down}
use Rattle.drawer_layout.proofs.Laws.{Laid, under-or-not, free-each, share-none}
use Rattle.drawer_moves.specs.Painted.{painted, part_in}
use Rattle.drawer_moves.proofs.Sums.{total-more, list_at, list_length}
use Rattle.drawer_moves.proofs.Moves.{before-lt, before-le, before_self, full-inside, place-full, empty-part}
use Rattle.drawer_moves.proofs.Painting.{written-nothing}

pub same_or_not : (i k : ℕ) → (i ≡ k) ⊎ (i ≡ k → ⊥)
same_or_not i k = go (eqb i k) refl
  where
    go : (t : Bool) → eqb i k ≡ t → (i ≡ k) ⊎ (i ≡ k → ⊥)
    go true e = inl (eqb-true i k e)
    go false e = inr (eqb-false i k e)

swapped : {A B : Type 0} → A ⊎ B → B ⊎ A
swapped (inl a) = inr a
swapped (inr b) = inl b

-- ---- the lowest gap is free, and lowest
module _ (n : ℕ) (offs lens : List ℕ) (m : ℕ) where
  first_found : (c p : ℕ) → (first_free n offs lens m c p ≡ 0 → ⊥) → (is_free offs lens (first_free n offs lens m c p) m n ≡ true) × (p ≤ first_free n offs lens m c p) × (first_free n offs lens m c p < p + c)
  unfolding first_free
  first_found zero p z = absurd (z refl)
  first_found (suc c) p z = go (is_free offs lens p m n) refl z (λ y. first_found c (suc p) y)
    where
      go : (t : Bool) → is_free offs lens p m n ≡ t → (cond t p (first_free n offs lens m c (suc p)) ≡ 0 → ⊥)
          → ((first_free n offs lens m c (suc p) ≡ 0 → ⊥) → (is_free offs lens (first_free n offs lens m c (suc p)) m n ≡ true) × (suc p ≤ first_free n offs lens m c (suc p)) × (first_free n offs lens m c (suc p) < suc p + c))
          → (is_free offs lens (cond t p (first_free n offs lens m c (suc p))) m n ≡ true) × (p ≤ cond t p (first_free n offs lens m c (suc p))) × (cond t p (first_free n offs lens m c (suc p)) < p + suc c)
      go true e z more = (e, omega arith, omega arith)
      go false e z more = let r = more z in (r.0, omega (arith, r.1), omega (arith, r.2))

  first-lowest : (c p q : ℕ) → 0 < p → p ≤ q → q < p + c → (first_free n offs lens m c p ≡ 0) ⊎ (q < first_free n offs lens m c p) → is_free offs lens q m n ≡ true → ⊥
  unfolding first_free
  first-lowest zero p q o a b s e = absurd (omega arith)
  first-lowest (suc c) p q o a b s e = go (is_free offs lens p m n) refl s (λ l h. first-lowest c (suc p) q (omega arith) l (omega arith) h e)
    where
      go : (t : Bool) → is_free offs lens p m n ≡ t → (cond t p (first_free n offs lens m c (suc p)) ≡ 0) ⊎ (q < cond t p (first_free n offs lens m c (suc p)))
          → (suc p ≤ q → (first_free n offs lens m c (suc p) ≡ 0) ⊎ (q < first_free n offs lens m c (suc p)) → ⊥) → ⊥
      go true f (inl z) more = omega arith
      go true f (inr z) more = omega arith
      go false f s more = ⊎_elim (λ l. more l s) (λ l. let z : true ≡ false = sym e ∙ (ap (λ x. is_free offs lens x m n) (same l) ∙ f) in let y : ◌≡◌ {A = ℕ} 0 1 = cc in omega arith) (under-or-not p q)
        where
          same : q ≤ p → q ≡ p
          same l = omega arith

  module _ (room : ℕ) where
    pub gap-free : (lowest_gap n offs lens room m ≡ 0 → ⊥) → (is_free offs lens (lowest_gap n offs lens room m) m n ≡ true) × (header_size n ≤ lowest_gap n offs lens room m) × (lowest_gap n offs lens room m + m ≤ room)
    unfolding lowest_gap
    gap-free z = let r = first_found (room + 1 - (header_size n + m)) (header_size n) z in (r.0, r.1, omega (arith, r.1, r.2))

    -- no place below it is free; where there is none, no place at all
    pub gap-lowest : (q : ℕ) → header_size n ≤ q → q + m ≤ room → (lowest_gap n offs lens room m ≡ 0) ⊎ (q < lowest_gap n offs lens room m) → is_free offs lens q m n ≡ true → ⊥
    unfolding lowest_gap header_size
    gap-lowest q a b s e = first-lowest (room + 1 - (header_size n + m)) (header_size n) q (omega arith) a (omega arith) s e

    -- no file has a byte of it
    pub gap-clear : (lowest_gap n offs lens room m ≡ 0 → ⊥) → 0 < m → (i : ℕ) → i < n → 0 < get_or lens i 0 → (get_or offs i 0 + get_or lens i 0 ≤ lowest_gap n offs lens room m) ⊎ (lowest_gap n offs lens room m + m ≤ get_or offs i 0)
    unfolding is_in_way
    gap-clear z h i l k =
        swapped (share-none (lowest_gap n offs lens room m) m (get_or offs i 0) (get_or lens i 0) (free-each offs lens (lowest_gap n offs lens room m) m n (gap-free z).0 i l) h k)

-- ---- one file placed anew
module _ (n : ℕ) (base lens : List ℕ) (room k place m : ℕ) (long_base : length base ≡ n) (long_lens : length lens ≡ n) (small : k < n) where
  place_same : get_or (set base k place) k 0 ≡ place
  place_same = get_or-set_same base k place 0 (omega arith)

  length-same : get_or (set lens k m) k 0 ≡ m
  length-same = get_or-set_same lens k m 0 (omega arith)

  pub place_other : (i : ℕ) → (i ≡ k → ⊥) → get_or (set base k place) i 0 ≡ get_or base i 0
  place_other i q = get_or-set_other base k i place 0 q

  length-other : (i : ℕ) → (i ≡ k → ⊥) → get_or (set lens k m) i 0 ≡ get_or lens i 0
  length-other i q = get_or-set_other lens k i m 0 q

  pub laid-anew : Laid n base lens room → ((place ≡ 0) × (m ≡ 0)) ⊎ ((header_size n ≤ place) × (place + m ≤ room))
      → (0 < m → (i : ℕ) → i < n → (i ≡ k → ⊥) → 0 < get_or lens i 0 → (get_or base i 0 + get_or lens i 0 ≤ place) ⊎ (place + m ≤ get_or base i 0))
      → Laid n (set base k place) (set lens k m) room
  laid-anew ok own clear =
      record {
        stands = λ i l. ⊎_elim (λ q. rw q (rw (place_same, length-same) own)) (λ q. rw (place_other i q, length-other i q) (ok.stands i l)) (same_or_not i k);
        apart = λ i j l h d a b. ⊎_elim
            (λ q. let r : j ≡ k → ⊥ = λ s. d (q ∙ sym s) in
            rw q (rw (place_same, length-same, place_other j r, length-other j r)
            (swapped (clear (rw length-same at (rw q at a)) j h r (rw (length-other j r) at b)))))
            (λ q. ⊎_elim
            (λ s. rw s (rw (place_same, length-same, place_other i q, length-other i q) (clear (rw length-same at (rw s at b)) i l q (rw (length-other i q) at a))))
            (λ s. rw (place_other i q, length-other i q, place_other j s, length-other j s) (ok.apart i j l h d (rw (length-other i q) at a) (rw (length-other j s) at b))) (same_or_not j k))
            (same_or_not i k);
      }

-- ---- files moved down
module _ (n : ℕ) (offs lens : List ℕ) where
  pub before-all : (i : ℕ) → i < n → length_before n offs lens i + get_or lens i 0 ≤ all_lengths n lens
  unfolding length_before all_lengths
  before-all i l =
      total-more (λ x. cond (comes_before offs x i) (get_or lens x 0) 0) (λ x. get_or lens x 0) n i (get_or lens i 0) l
      (λ x m. by-test (λ r. r ≤ get_or lens x 0) (comes_before offs x i) (get_or lens x 0) 0 (λ e. omega arith) (λ e. omega arith)) (rw (before_self offs i) (omega arith))

  before-both : (i j : ℕ) → i < n → get_or offs i 0 < get_or offs j 0 → length_before n offs lens i + get_or lens i 0 ≤ length_before n offs lens j
  unfolding length_before
  before-both i j l h =
      total-more (λ x. cond (comes_before offs x i) (get_or lens x 0) 0) (λ x. cond (comes_before offs x j) (get_or lens x 0) 0) n i (get_or lens i 0) l
      (λ x m. by-test (λ r. r ≤ cond (comes_before offs x j) (get_or lens x 0) 0) (comes_before offs x i) (get_or lens x 0) 0 (λ e. rw (before-lt offs x j (omega (arith, before-le offs x i e))) (omega arith)) (λ e. omega arith))
      (rw (before_self offs i, before-lt offs i j h) (omega arith))

  pub moved-zero : (i : ℕ) → i < n → get_or offs i 0 ≡ 0 → get_or (places_moved_down n offs lens) i 0 ≡ 0
  unfolding places_moved_down moved_to
  moved-zero i l z = list_at (moved_to n offs lens) n i l ∙ rw z

  pub moved_none : (i : ℕ) → i < n → (get_or offs i 0 ≡ 0 → ⊥) → get_or lens i 0 ≡ 0 → get_or (places_moved_down n offs lens) i 0 ≡ header_size n
  unfolding places_moved_down moved_to
  moved_none i l h z = list_at (moved_to n offs lens) n i l ∙ rw (ne_eqb (get_or offs i 0) 0 h, z)

  pub moved_length : length (places_moved_down n offs lens) ≡ n
  unfolding places_moved_down
  moved_length = list_length (moved_to n offs lens) n

  -- each number of it is small
  pub moved-small : (i : ℕ) → i < n → moved_to n offs lens i ≤ header_size n + all_lengths n lens
  unfolding moved_to
  moved-small i l =
      by-test (λ r. r ≤ header_size n + all_lengths n lens) (eqb (get_or offs i 0) 0) 0 (cond (eqb (get_or lens i 0) 0) (header_size n) (header_size n + length_before n offs lens i)) (λ e. omega arith)
      (λ e. by-test (λ r. r ≤ header_size n + all_lengths n lens) (eqb (get_or lens i 0) 0) (header_size n) (header_size n + length_before n offs lens i) (λ e. omega arith) (λ e. omega (arith, before-all i l)))

  pub moved-laid : (room : ℕ) → Laid n offs lens room → header_size n + all_lengths n lens ≤ room → Laid n (places_moved_down n offs lens) lens room
  unfolding header_size
  moved-laid room ok fits =
      record {
        stands = λ i l. ⊎_elim (λ z. inl (moved-zero i l z.0, z.1))
            (λ z. inr (⊎_elim (λ h. rw (place-full n offs lens room ok i l h) (omega arith, omega (arith, before-all i l))) (λ h. let y : get_or lens i 0 ≡ 0 = omega arith in rw (moved_none i l (λ q. omega (arith, z.0)) y) (omega arith, omega arith)) (under-or-not 0 (get_or lens i 0)))) (ok.stands i l);
        apart = λ i j l h d a b. rw (place-full n offs lens room ok i l a, place-full n offs lens room ok j h b)
            (⊎_elim (λ z. inl (omega (arith, before-both i j l (omega arith)))) (λ z. inr (omega (arith, before-both j i h (omega arith)))) (ok.apart i j l h d a b));
      }

-- ---- bytes that are written where they stand change nothing
own-part : (d : List ℕ) (o l : ℕ) → o + l ≤ length d → written d o (take l (drop o d)) ≡ d
own-part d o l fits =
    let e : length (take l (drop o d)) ≡ l = length-take-le l (drop o d) (omega (arith, length-drop o d)) in
    written-fits d o (take l (drop o d)) (omega (arith, e)) ∙ rw (e, ← take-add o l d) (take-append-drop (o + l) d)

own-whole : (n : ℕ) (d offs lens : List ℕ) → Laid n offs lens (length d) → (m : ℕ) → m < n → 0 < get_or lens m 0 → written d (get_or offs m 0) (part_in d offs lens m) ≡ d
unfolding part_in
own-whole n d offs lens ok m l h = own-part d (get_or offs m 0) (get_or lens m 0) (full-inside n offs lens (length d) ok m l h).1

pub painted-own : (n : ℕ) (d offs lens : List ℕ) → Laid n offs lens (length d) → (m : ℕ) → m ≤ n → painted (part_in d offs lens) offs m d ≡ d
unfolding painted
painted-own n d offs lens ok zero l = refl
painted-own n d offs lens ok (suc m) l = rw (painted-own n d offs lens ok m (omega arith)) (⊎_elim full none (under-or-not 0 (get_or lens m 0)))
  where
    full : 0 < get_or lens m 0 → written d (get_or offs m 0) (part_in d offs lens m) ≡ d
    full h = own-whole n d offs lens ok m (omega arith) h

    none : get_or lens m 0 ≤ 0 → written d (get_or offs m 0) (part_in d offs lens m) ≡ d
    none h = ap (written d (get_or offs m 0)) (empty-part n d offs lens ok m (omega arith)) ∙ written-nothing d (get_or offs m 0)
