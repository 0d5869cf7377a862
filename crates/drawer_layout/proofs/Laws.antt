-- What is known of bytes in common, of files that stand apart, and of the lowest gap between them.
-- Assumes nothing.
use Prim.Native.Nat.{ℕ, zero, suc, ◌+◌, ◌-◌, ◌≤◌, ◌<◌}
use mathlib.Core.Path.{◌≡◌, refl, sym, ◌∙◌}
use mathlib.Core.Bool.{Bool, true, false, not, ◌&&◌, ◌||◌, and-false}
use mathlib.Core.Logic.{◌⊎◌, inl, inr, ⊎_elim}
use mathlib.Core.List.{List}
use native.Mathlib.Nat.{eq-or-lt_of_le, le_of_suc-le-suc, add-zero}
use native.Mathlib.Numerals.{add-one}
use native.Mathlib.Omega.{arith}
use borrow.Author.Tests.{ltb-true, ltb-false, leb-true, eqb-true, lt-ltb, le-leb, ne_eqb, not-true}
use lib.ListN.{get_or}
use lib.Dec.{ltb, leb, eqb}
use Rattle.json_bytes.proofs.Laws.{both_left, both_right}
use Rattle.bundle_layout.specs.Bundle.{header_size}
use Rattle.drawer_layout.specs.Places.{share_byte, is_in_way, is_free, stands_inside, stand_apart, first_free, lowest_gap}
use Rattle.drawer_layout.specs.Way.{Way}

pub last-or-before : (i n : ℕ) → i < suc n → (i ≡ n) ⊎ (i < n)
last-or-before i n l = eq-or-lt_of_le (le_of_suc-le-suc l)

pub not_so : (t : Bool) → (t ≡ true → ⊥) → t ≡ false
not_so true n = absurd (n refl)
not_so false n = refl

pub under-or-not : (a b : ℕ) → (a < b) ⊎ (b ≤ a)
under-or-not a b = go (ltb a b) refl
  where
    go : (t : Bool) → ltb a b ≡ t → (a < b) ⊎ (b ≤ a)
    go true e = inl (ltb-true a b e)
    go false e = inr (ltb-false a b e)

-- ---- bytes in common
module _ (p m q l : ℕ) where
  pub share-parts : share_byte p m q l ≡ true → (0 < m) × (0 < l) × (q < p + m) × (p < q + l)
  unfolding share_byte
  share-parts e =
      let a = both_left (ltb 0 m && ltb 0 l) (ltb q (p + m) && ltb p (q + l)) e in
      let b = both_right (ltb 0 m && ltb 0 l) (ltb q (p + m) && ltb p (q + l)) e in
      (ltb-true 0 m (both_left (ltb 0 m) (ltb 0 l) a), ltb-true 0 l (both_right (ltb 0 m) (ltb 0 l) a), ltb-true q (p + m) (both_left (ltb q (p + m)) (ltb p (q + l)) b), ltb-true p (q + l) (both_right (ltb q (p + m)) (ltb p (q + l)) b))

  pub share-all : 0 < m → 0 < l → q < p + m → p < q + l → share_byte p m q l ≡ true
  unfolding share_byte
  share-all a b c d = rw (lt-ltb 0 m a, lt-ltb 0 l b, lt-ltb q (p + m) c, lt-ltb p (q + l) d)

  pub share-none : share_byte p m q l ≡ false → 0 < m → 0 < l → (p + m ≤ q) ⊎ (q + l ≤ p)
  share-none e a b = ⊎_elim (λ c. ⊎_elim (λ d. absurd (clash (sym (share-all a b c d) ∙ e))) (λ d. inr d) (under-or-not p (q + l))) (λ c. inl c) (under-or-not q (p + m))
    where
      clash : true ≡ false → ⊥
      clash z = let y : ◌≡◌ {A = ℕ} 0 1 = cc in omega arith

-- ---- free bytes
module _ (offs lens : List ℕ) (p m : ℕ) where
  pub free-next : (i : ℕ) → is_free offs lens p m i ≡ true → is_in_way offs lens p m i ≡ false → is_free offs lens p m (i + 1) ≡ true
  unfolding is_free
  free-next i e f = rw (add-one i, is_free, e, f)

  pub free-not : (n i : ℕ) → i < n → is_in_way offs lens p m i ≡ true → is_free offs lens p m n ≡ false
  unfolding is_free
  free-not zero i l e = absurd (omega arith)
  free-not (suc n) i l e =
      ⊎_elim (λ h. let f : is_in_way offs lens p m n ≡ true = rw h at e in rw f (and-false (is_free offs lens p m n)))
      (λ h. rw (free-not n i h e)) (last-or-before i n l)

  pub free-each : (n : ℕ) → is_free offs lens p m n ≡ true → (i : ℕ) → i < n → is_in_way offs lens p m i ≡ false
  unfolding is_free
  free-each zero e i l = absurd (omega arith)
  free-each (suc n) e i l =
      ⊎_elim (λ h. rw h (not-true (is_in_way offs lens p m n) (both_right (is_free offs lens p m n) (not (is_in_way offs lens p m n)) e)))
      (λ h. free-each n (both_left (is_free offs lens p m n) (not (is_in_way offs lens p m n)) e) i h) (last-or-before i n l)

  pub each_free : (n : ℕ) → ((i : ℕ) → i < n → is_in_way offs lens p m i ≡ false) → is_free offs lens p m n ≡ true
  unfolding is_free
  each_free zero f = refl
  each_free (suc n) f = rw (each_free n (λ i l. f i (omega arith)), f n (omega arith))

-- ---- files that stand apart
inside-parts : (n room o l : ℕ) → stands_inside n room o l ≡ true → ((o ≡ 0) × (l ≡ 0)) ⊎ ((header_size n ≤ o) × (o + l ≤ room))
unfolding stands_inside
inside-parts n room o l e = go (eqb o 0 && eqb l 0) refl e
  where
    go : (t : Bool) → (eqb o 0 && eqb l 0) ≡ t → (t || (leb (header_size n) o && leb (o + l) room)) ≡ true → ((o ≡ 0) × (l ≡ 0)) ⊎ ((header_size n ≤ o) × (o + l ≤ room))
    go true q e = inl (eqb-true o 0 (both_left (eqb o 0) (eqb l 0) q), eqb-true l 0 (both_right (eqb o 0) (eqb l 0) q))
    go false q e = inr (leb-true (header_size n) o (both_left (leb (header_size n) o) (leb (o + l) room) e), leb-true (o + l) room (both_right (leb (header_size n) o) (leb (o + l) room) e))

pub inside-omitted : (n room o l : ℕ) → o ≡ 0 → l ≡ 0 → stands_inside n room o l ≡ true
unfolding stands_inside
inside-omitted n room o l a b = rw (a, b)

pub inside-there : (n room o l : ℕ) → header_size n ≤ o → o + l ≤ room → stands_inside n room o l ≡ true
unfolding stands_inside header_size
inside-there n room o l a b = rw (ne_eqb o 0 (λ z. omega arith), le-leb (header_size n) o a, le-leb (o + l) room b)

-- each file by itself, and each two
pub record Laid (n : ℕ) (offs lens : List ℕ) (room : ℕ) : Type 0 where
  pub stands : (i : ℕ) → i < n → ((get_or offs i 0 ≡ 0) × (get_or lens i 0 ≡ 0)) ⊎ ((header_size n ≤ get_or offs i 0) × (get_or offs i 0 + get_or lens i 0 ≤ room))
  pub apart : (i j : ℕ) → i < n → j < n → (i ≡ j → ⊥) → 0 < get_or lens i 0 → 0 < get_or lens j 0 → (get_or offs i 0 + get_or lens i 0 ≤ get_or offs j 0) ⊎ (get_or offs j 0 + get_or lens j 0 ≤ get_or offs i 0)

module _ (n : ℕ) (offs lens : List ℕ) (room : ℕ) where
  Each : ℕ → Type 0
  Each i = (stands_inside n room (get_or offs i 0) (get_or lens i 0) ≡ true) × (is_free offs lens (get_or offs i 0) (get_or lens i 0) i ≡ true)

  apart-each : (m : ℕ) → stand_apart n offs lens room m ≡ true → (i : ℕ) → i < m → Each i
  unfolding stand_apart Each
  apart-each zero e i l = absurd (omega arith)
  apart-each (suc m) e i l =
      ⊎_elim (λ h. let b = both_right (stand_apart n offs lens room m) (stands_inside n room (get_or offs m 0) (get_or lens m 0) && is_free offs lens (get_or offs m 0) (get_or lens m 0) m) e in
      rw h (both_left (stands_inside n room (get_or offs m 0) (get_or lens m 0)) (is_free offs lens (get_or offs m 0) (get_or lens m 0) m) b, both_right (stands_inside n room (get_or offs m 0) (get_or lens m 0)) (is_free offs lens (get_or offs m 0) (get_or lens m 0) m) b))
      (λ h. apart-each m (both_left (stand_apart n offs lens room m) (stands_inside n room (get_or offs m 0) (get_or lens m 0) && is_free offs lens (get_or offs m 0) (get_or lens m 0) m) e) i h)
      (last-or-before i m l)

  each-apart : (m : ℕ) → ((i : ℕ) → i < m → Each i) → stand_apart n offs lens room m ≡ true
  unfolding stand_apart Each
  each-apart zero f = refl
  each-apart (suc m) f = rw (each-apart m (λ i l. f i (omega arith)), (f m (omega arith)).0, (f m (omega arith)).1)

  -- in the order of the numbers
  later : stand_apart n offs lens room n ≡ true → (i j : ℕ) → i < n → j < i → 0 < get_or lens i 0 → 0 < get_or lens j 0 → (get_or offs i 0 + get_or lens i 0 ≤ get_or offs j 0) ⊎ (get_or offs j 0 + get_or lens j 0 ≤ get_or offs i 0)
  unfolding Each is_in_way
  later e i j l h a b =
      share-none (get_or offs i 0) (get_or lens i 0) (get_or offs j 0) (get_or lens j 0)
      (free-each offs lens (get_or offs i 0) (get_or lens i 0) i (apart-each n e i l).1 j h) a b

  swapped : {A B : Type 0} → A ⊎ B → B ⊎ A
  swapped (inl a) = inr a
  swapped (inr b) = inl b

  pub laid : stand_apart n offs lens room n ≡ true → Laid n offs lens room
  unfolding Each
  laid e =
      record {
        stands = λ i l. inside-parts n room (get_or offs i 0) (get_or lens i 0) (apart-each n e i l).0;
        apart = λ i j l h d a b. ⊎_elim (λ lt. swapped (later e j i h lt b a)) (λ ge. later e i j l (omega (arith, d' i j d ge)) a b) (under-or-not i j);
      }
    where
      d' : (i j : ℕ) → (i ≡ j → ⊥) → j ≤ i → j < i
      d' i j d ge = ⊎_elim (λ q. absurd (d (sym q))) (λ q. q) (eq-or-lt_of_le ge)

  pub laid_so : Laid n offs lens room → stand_apart n offs lens room n ≡ true
  unfolding Each is_in_way
  laid_so r =
      each-apart n
      (λ i l. (
        ⊎_elim (λ z. inside-omitted n room (get_or offs i 0) (get_or lens i 0) z.0 z.1) (λ z. inside-there n room (get_or offs i 0) (get_or lens i 0) z.0 z.1) (r.stands i l),
        each_free offs lens (get_or offs i 0) (get_or lens i 0) i
            (λ j h. not_so _ (λ s.
            let p = share-parts (get_or offs i 0) (get_or lens i 0) (get_or offs j 0) (get_or lens j 0) s in
            ⊎_elim (λ z. omega arith) (λ z. omega arith) (r.apart i j l (omega arith) (λ q. omega arith) p.0 p.1))),
      ))

  -- one turn of the code, and its ways out
  pub apart_next : (i : ℕ) {o l w : ℕ} → stand_apart n offs lens room i ≡ true → o ≡ get_or offs i 0 → l ≡ get_or lens i 0 → stands_inside n room o l ≡ true → Way offs lens i o l w → i ≤ w → stand_apart n offs lens room (i + 1) ≡ true
  unfolding stand_apart
  apart_next i {o} {l} {w} e a b s way h =
      let q : w ≡ i = omega (arith, way.within) in
      rw (add-one i, stand_apart, e, ← a, ← b, s) (rw q at way.free)

  apart_more : (i m : ℕ) → i < m → (Each i → ⊥) → stand_apart n offs lens room m ≡ false
  apart_more i m l f = not_so (stand_apart n offs lens room m) (λ e. f (apart-each m e i l))

  pub apart-outside : (m i : ℕ) {o l : ℕ} → i < m → o ≡ get_or offs i 0 → l ≡ get_or lens i 0 → stands_inside n room o l ≡ false → false ≡ stand_apart n offs lens room m
  unfolding Each
  apart-outside m i h a b s = sym (apart_more i m h (λ e. let z : true ≡ false = sym e.0 ∙ rw (a, b) at s in let y : ◌≡◌ {A = ℕ} 0 1 = cc in omega arith))

  pub apart-met : (m i : ℕ) {o l w : ℕ} → i < m → o ≡ get_or offs i 0 → l ≡ get_or lens i 0 → Way offs lens i o l w → w < i → false ≡ stand_apart n offs lens room m
  unfolding Each
  apart-met m i {o} {l} {w} h a b way g =
      sym (apart_more i m h (λ e. let z : true ≡ false = sym e.1 ∙ rw (a, b) at (free-not offs lens o l i w g (way.met g)) in let y : ◌≡◌ {A = ℕ} 0 1 = cc in omega arith))

-- ---- the lowest gap
module _ (n : ℕ) (offs lens : List ℕ) (m : ℕ) where
  pub jump : (t c p : ℕ) → ((q : ℕ) → p ≤ q → q < p + t → is_free offs lens q m n ≡ false) → first_free n offs lens m c p ≡ first_free n offs lens m (c - t) (p + t)
  unfolding first_free
  jump zero c p f = let a : c - 0 ≡ c = omega arith in rw (a, add-zero p)
  jump (suc t) zero p f = let a : 0 - suc t ≡ 0 = omega arith in rw a
  jump (suc t) (suc c) p f =
      let a : suc c - suc t ≡ c - t = omega arith in
      let b : p + suc t ≡ suc p + t = omega arith in
      rw (f p (omega arith) (omega arith), first_free, a, b) (jump t c (suc p) (λ q l h. f q (omega arith) (omega arith)))

  -- a file in the way of p is in the way of each place up to its end
  met-up : (i p : ℕ) → is_in_way offs lens p m i ≡ true → (q : ℕ) → p ≤ q → q < get_or offs i 0 + get_or lens i 0 → is_in_way offs lens q m i ≡ true
  unfolding is_in_way
  met-up i p e q l h =
      let s = share-parts p m (get_or offs i 0) (get_or lens i 0) e in
      share-all q m (get_or offs i 0) (get_or lens i 0) s.0 s.1 (omega arith) h

  module _ (room : ℕ) where
    -- the answer from a place on
    pub Gap : ℕ → Type 0
    Gap p = lowest_gap n offs lens room m ≡ first_free n offs lens m (room + 1 - (p + m)) p

    pub gap-start : Gap (header_size n)
    unfolding Gap lowest_gap
    gap-start = refl

    pub gap-found : (p : ℕ) → Gap p → p + m ≤ room → is_free offs lens p m n ≡ true → p ≡ lowest_gap n offs lens room m
    unfolding Gap first_free
    gap-found p g l e =
        let a : room + 1 - (p + m) ≡ suc (room - (p + m)) = omega arith in
        sym (g ∙ rw (a, first_free, e))

    pub gap-none : (p : ℕ) → Gap p → room < p + m → 0 ≡ lowest_gap n offs lens room m
    unfolding Gap first_free
    gap-none p g l =
        let a : room + 1 - (p + m) ≡ 0 = omega arith in
        sym (g ∙ rw (a, first_free))

    pub gap-jump : (p i : ℕ) → Gap p → i < n → is_in_way offs lens p m i ≡ true → Gap (get_or offs i 0 + get_or lens i 0)
    unfolding Gap is_in_way
    gap-jump p i g l e =
        let s = share-parts p m (get_or offs i 0) (get_or lens i 0) e in
        let end = get_or offs i 0 + get_or lens i 0 in
        let a : room + 1 - (p + m) - (end - p) ≡ room + 1 - (end + m) = omega arith in
        let b : p + (end - p) ≡ end = omega arith in
        g ∙ rw (a, b) at (jump (end - p) (room + 1 - (p + m)) p (λ q h k. free-not offs lens q m n i l (met-up i p e q h (omega arith))))

    pub gap-ahead : (p i : ℕ) → is_in_way offs lens p m i ≡ true → p < get_or offs i 0 + get_or lens i 0
    unfolding is_in_way
    gap-ahead p i e = (share-parts p m (get_or offs i 0) (get_or lens i 0) e).3

    -- as the code finds out: a place where nothing is in the way, and the end of a file that is
    pub gap_at : (p : ℕ) {w : ℕ} → Gap p → p ≤ room - m → m ≤ room → Way offs lens n p m w → w ≡ n → p ≡ lowest_gap n offs lens room m
    gap_at p g l h way e = gap-found p g (omega arith) (rw e at way.free)

    pub gap-turn : (p : ℕ) {w o l : ℕ} → Gap p → Way offs lens n p m w → (w ≡ n → ⊥) → o ≡ get_or offs w 0 → l ≡ get_or lens w 0 → Gap (o + l)
    gap-turn p {w} g way e a b = let h : w < n = omega (arith, way.within) in rw (a, b) (gap-jump p w g h (way.met h))

    pub gap-grows : (p : ℕ) {w o l : ℕ} → Way offs lens n p m w → (w ≡ n → ⊥) → o ≡ get_or offs w 0 → l ≡ get_or lens w 0 → p < o + l
    gap-grows p {w} way e a b = let h : w < n = omega (arith, way.within) in rw (a, b) (gap-ahead p w (way.met h))
