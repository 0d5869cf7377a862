-- The files in the order in which they are moved, where they go, and what is there meanwhile.
-- Assumes nothing.
use Prim.Native.Nat.{ℕ, ◌+◌, ◌-◌, ◌≤◌, ◌<◌}
use mathlib.Core.Path.{◌≡◌, refl, sym, ap, ◌∙◌}
use mathlib.Core.Bool.{Bool, true, false, cond, ◌||◌}
use mathlib.Core.Logic.{◌⊎◌, inl, inr, ⊎_elim}
use mathlib.Core.List.{List, []}
use native.Mathlib.Nat.{zero-add, add-zero}
use native.Mathlib.Numerals.{add-one}
use native.Mathlib.Omega.{arith}
use borrow.Author.Tests.{ltb-false, eqb-true, eqb-false, lt-ltb, le-ltb, le-leb, lt-leb, eq-eqb, ne_eqb}
use lib.ListN.{length, get_or, take, drop, set, length-drop}
use lib.Seq.{paste, paste-suc, drop-paste, length-take-le, get_or-take, get_or-drop}
use lib.Dec.{ltb, eqb}
use Rattle.json_bytes.proofs.Laws.{by-test}
use Rattle.bundle_bytes.specs.Pieces.{written}
use Rattle.bundle_bytes.proofs.Laws.{written-whole}
use Rattle.bundle_layout.specs.Bundle.{header_size}
use Rattle.drawer_layout.specs.Places.{comes_before, length_before, moved_to, places_moved_down, stand_apart}
use Rattle.drawer_layout.proofs.Laws.{Laid, under-or-not, last-or-before}
use Rattle.drawer_moves.specs.Painted.{part_in, files_moved, moved_in}
use Rattle.drawer_moves.specs.Next.{is_next, Next, length_below, under_at, moved_under, Moving}
use Rattle.drawer_moves.proofs.Sums.{total-same, total-more, total-step, total-none, list_at}
use Rattle.drawer_moves.proofs.Painting.{painted-none, painted-back, painted_same, painted-put}

nothing-either : (t u : Bool) → ◌≡◌ {A = ℕ} (cond t 0 0) (cond u 0 0)
nothing-either true true = refl
nothing-either true false = refl
nothing-either false true = refl
nothing-either false false = refl

-- ---- one part moved down: what is still to be read is as it was
module _ (d : List ℕ) (from to n : ℕ) (down : to ≤ from) (fits : from + n ≤ length d) where
  pub part-long : length (take n (drop from d)) ≡ n
  part-long = length-take-le n (drop from d) (omega (arith, length-drop from d))

  pub move-turn : (i : ℕ) {e : List ℕ} → i < n → e ≡ paste d to (take n (drop from d)) i → set e (to + i) (get_or e (from + i) 0) ≡ paste d to (take n (drop from d)) (i + 1)
  move-turn i {e} l q = ap (set e (to + i)) read ∙ rw (q, add-one i) (paste-suc d to (take n (drop from d)) i 0 (omega arith) (omega (arith, part-long)))
    where
      far : to + i + (from - to) ≡ from + i
      far = omega arith

      there : (r : List ℕ) → get_or r (from + i) 0 ≡ get_or (drop (to + i) r) (from - to) 0
      there r = sym (get_or-drop (to + i) r (from - to) 0 ∙ ap (λ k. get_or r k 0) far)

      read : get_or e (from + i) 0 ≡ get_or (take n (drop from d)) i 0
      read =
          there e ∙ ap (λ r. get_or (drop (to + i) r) (from - to) 0) q ∙ ap (λ r. get_or r (from - to) 0) (drop-paste d to (take n (drop from d)) i (omega arith) (omega (arith, part-long)))
          ∙ sym (there d) ∙ sym (get_or-take n (drop from d) i 0 l ∙ get_or-drop from d i 0)

  pub move-whole : (i : ℕ) {e : List ℕ} → i ≡ n → e ≡ paste d to (take n (drop from d)) i → e ≡ written d to (take n (drop from d))
  move-whole i l q = q ∙ written-whole d to (take n (drop from d)) i (l ∙ sym part-long) (omega (arith, part-long))

-- ---- the next file
module _ (n : ℕ) (offs lens : List ℕ) (c : ℕ) where
  pub next-none : Next n offs lens c 0 n
  next-none = record { within = omega arith; full = λ l. absurd (omega arith); least = λ j l. absurd (omega arith) }

  next-not : (best i : ℕ) → is_next n offs lens c best i ≡ false → 0 < get_or lens i 0 → c ≤ get_or offs i 0 → (best ≡ n → ⊥) × (get_or offs best 0 ≤ get_or offs i 0)
  unfolding is_next
  next-not best i e a b = go (eqb best n) refl (rw (lt-ltb 0 (get_or lens i 0) a, le-leb c (get_or offs i 0) b) at e)
    where
      go : (t : Bool) → eqb best n ≡ t → (t || ltb (get_or offs i 0) (get_or offs best 0)) ≡ false → (best ≡ n → ⊥) × (get_or offs best 0 ≤ get_or offs i 0)
      go true q e = absurd (let z : ◌≡◌ {A = ℕ} 0 1 = cc in omega arith)
      go false q e = (eqb-false best n q, ltb-false (get_or offs i 0) (get_or offs best 0) e)

  -- as the code finds out
  module _ (best i : ℕ) {size : ℕ} (a : size ≡ get_or lens i 0) where
    pub next-empty : size ≡ 0 → false ≡ is_next n offs lens c best i
    unfolding is_next
    next-empty z = rw (sym a ∙ z)

    module _ {o : ℕ} (b : o ≡ get_or offs i 0) (h : size ≡ 0 → ⊥) where
      pub next-early : o < c → false ≡ is_next n offs lens c best i
      unfolding is_next
      next-early l = rw (lt-ltb 0 (get_or lens i 0) (omega arith), lt-leb c (get_or offs i 0) (omega arith))

  pub next-left : (best i : ℕ) {t : Bool} → Next n offs lens c i best → t ≡ is_next n offs lens c best i → t ≡ false → Next n offs lens c (i + 1) best
  next-left best i x is e =
      record {
        within = x.within;
        full = x.full;
        least = λ j m a b. ⊎_elim (λ q. let y = next-not best i (sym is ∙ e) (rw q at a) (rw q at b) in (omega (arith, x.within, y.0), rw q y.1)) (λ q. x.least j q a b) (last-or-before j i (omega arith));
      }

-- ---- before and below
module _ (offs : List ℕ) (j i : ℕ) where
  pub before-lt : get_or offs j 0 < get_or offs i 0 → comes_before offs j i ≡ true
  unfolding comes_before
  before-lt l = rw (lt-ltb (get_or offs j 0) (get_or offs i 0) l)

  pub before-not : get_or offs i 0 < get_or offs j 0 → comes_before offs j i ≡ false
  unfolding comes_before
  before-not l = rw (le-ltb (get_or offs j 0) (get_or offs i 0) (omega arith), ne_eqb (get_or offs j 0) (get_or offs i 0) (λ q. omega arith))

  pub before-le : comes_before offs j i ≡ true → get_or offs j 0 ≤ get_or offs i 0
  before-le e = ⊎_elim (λ l. absurd (let z : true ≡ false = sym e ∙ before-not l in let y : ◌≡◌ {A = ℕ} 0 1 = cc in omega arith)) (λ l. l) (under-or-not (get_or offs i 0) (get_or offs j 0))

pub before_self : (offs : List ℕ) (i : ℕ) → comes_before offs i i ≡ false
unfolding comes_before
before_self offs i = rw (le-ltb (get_or offs i 0) (get_or offs i 0) (omega arith), eq-eqb (get_or offs i 0) (get_or offs i 0) refl, le-ltb i i (omega arith))

module _ (n : ℕ) (offs lens : List ℕ) where
  -- a file that starts below c is moved to end with the others that do
  pub ends-below : (c j : ℕ) → j < n → get_or offs j 0 < c → length_before n offs lens j + get_or lens j 0 ≤ length_below n offs lens c
  unfolding length_before length_below
  ends-below c j l h =
      total-more (λ x. cond (comes_before offs x j) (get_or lens x 0) 0) (λ x. cond (ltb (get_or offs x 0) c) (get_or lens x 0) 0) n j (get_or lens j 0) l
      (λ x m. by-test (λ r. r ≤ cond (ltb (get_or offs x 0) c) (get_or lens x 0) 0) (comes_before offs x j) (get_or lens x 0) 0 (λ e. rw (lt-ltb (get_or offs x 0) c (omega (arith, before-le offs x j e))) (omega arith)) (λ e. omega arith))
      (rw (before_self offs j, lt-ltb (get_or offs j 0) c h) (omega arith))

  module _ (room : ℕ) (ok : Laid n offs lens room) where
    pub full-inside : (i : ℕ) → i < n → 0 < get_or lens i 0 → (header_size n ≤ get_or offs i 0) × (get_or offs i 0 + get_or lens i 0 ≤ room)
    full-inside i l h = ⊎_elim (λ z. absurd (omega (arith, z.1))) (λ z. z) (ok.stands i l)

    -- where a file with bytes goes
    pub place-full : (i : ℕ) → i < n → 0 < get_or lens i 0 → get_or (places_moved_down n offs lens) i 0 ≡ header_size n + length_before n offs lens i
    unfolding places_moved_down moved_to header_size
    place-full i l h =
        list_at (moved_to n offs lens) n i l ∙ rw (ne_eqb (get_or offs i 0) 0 (λ z. omega (arith, (full-inside i l h).0)), ne_eqb (get_or lens i 0) 0 (λ z. omega arith))

    -- before the first move nothing is moved
    pub below-start : length_below n offs lens (header_size n) ≡ 0
    unfolding length_below
    below-start =
        total-none (λ x. cond (ltb (get_or offs x 0) (header_size n)) (get_or lens x 0) 0) n
        (λ j l. ⊎_elim (λ h. rw (le-ltb (get_or offs j 0) (header_size n) (full-inside j l h).0)) (λ h. let z : get_or lens j 0 ≡ 0 = omega arith in rw z (nothing-either (ltb (get_or offs j 0) (header_size n)) true)) (under-or-not 0 (get_or lens j 0)))

    module _ (c i : ℕ) (next : Next n offs lens c n i) (l : i < n) where
      -- all others from c on start behind it
      pub others-behind : (j : ℕ) → j < n → (j ≡ i → ⊥) → 0 < get_or lens j 0 → c ≤ get_or offs j 0 → get_or offs i 0 + get_or lens i 0 ≤ get_or offs j 0
      others-behind j m d h k =
          let y = next.least j m h k in
          ⊎_elim (λ z. z) (λ z. absurd (omega (arith, y.1, z))) (ok.apart i j l m (λ q. d (sym q)) (next.full l).0 h)

      -- a test by c, and by its end
      same_test : (j : ℕ) → j < n → (j ≡ i → ⊥) → (get_or lens j 0 ≡ 0) ⊎ (ltb (get_or offs j 0) (get_or offs i 0 + get_or lens i 0) ≡ ltb (get_or offs j 0) c)
      same_test j m d =
          let f = next.full l in
          ⊎_elim (λ h. inr (⊎_elim (λ k. lt-ltb (get_or offs j 0) (get_or offs i 0 + get_or lens i 0) (omega (arith, f.1)) ∙ sym (lt-ltb (get_or offs j 0) c k)) (λ k. le-ltb (get_or offs j 0) (get_or offs i 0 + get_or lens i 0) (others-behind j m d h k) ∙ sym (le-ltb (get_or offs j 0) c k)) (under-or-not (get_or offs j 0) c)))
          (λ h. inl (omega arith)) (under-or-not 0 (get_or lens j 0))

      here : (ltb (get_or offs i 0) (get_or offs i 0 + get_or lens i 0) ≡ true) × (ltb (get_or offs i 0) c ≡ false)
      here = (lt-ltb (get_or offs i 0) (get_or offs i 0 + get_or lens i 0) (omega (arith, (next.full l).0)), le-ltb (get_or offs i 0) c (next.full l).1)

      pub below_next : length_below n offs lens (get_or offs i 0 + get_or lens i 0) ≡ length_below n offs lens c + get_or lens i 0
      unfolding length_below
      below_next =
          total-step (λ j. cond (ltb (get_or offs j 0) c) (get_or lens j 0) 0) (λ j. cond (ltb (get_or offs j 0) (get_or offs i 0 + get_or lens i 0)) (get_or lens j 0) 0) n i (get_or lens i 0) l
          (rw (here.0, here.1) (sym (zero-add (get_or lens i 0))))
          (λ j m d. ⊎_elim (λ z. rw z (nothing-either (ltb (get_or offs j 0) (get_or offs i 0 + get_or lens i 0)) (ltb (get_or offs j 0) c))) (λ z. rw z) (same_test j m d))

      before-below : length_before n offs lens i ≡ length_below n offs lens c
      unfolding length_before length_below
      before-below =
          total-same (λ j. cond (comes_before offs j i) (get_or lens j 0) 0) (λ j. cond (ltb (get_or offs j 0) c) (get_or lens j 0) 0) n
          (λ j m. ⊎_elim (λ h. ap (λ t. cond t (get_or lens j 0) 0) (⊎_elim (λ k. before-lt offs j i (omega (arith, (next.full l).1)) ∙ sym (lt-ltb (get_or offs j 0) c k)) (λ k. not-before j m h k (eqb j i) refl ∙ sym (le-ltb (get_or offs j 0) c k)) (under-or-not (get_or offs j 0) c)))
          (λ h. let z : get_or lens j 0 ≡ 0 = omega arith in rw z (nothing-either (comes_before offs j i) (ltb (get_or offs j 0) c))) (under-or-not 0 (get_or lens j 0)))
        where
          not-before : (j : ℕ) → j < n → 0 < get_or lens j 0 → c ≤ get_or offs j 0 → (t : Bool) → eqb j i ≡ t → comes_before offs j i ≡ false
          not-before j m h k true e = rw (eqb-true j i e) (before_self offs i)
          not-before j m h k false e = before-not offs j i (omega (arith, others-behind j m (eqb-false j i e) h k, (next.full l).0))

      pub place-next : get_or (places_moved_down n offs lens) i 0 ≡ header_size n + length_below n offs lens c
      place-next = place-full i l (next.full l).0 ∙ ap (λ r. header_size n + r) before-below

-- ---- the drawer meanwhile
module _ (n : ℕ) (d offs lens : List ℕ) (ok : Laid n offs lens (length d)) where
  pub empty-part : (i : ℕ) → get_or lens i 0 ≡ 0 → part_in d offs lens i ≡ []
  unfolding part_in
  empty-part i z = rw z

  pub full-length : (i : ℕ) → i < n → 0 < get_or lens i 0 → length (part_in d offs lens i) ≡ get_or lens i 0
  unfolding part_in
  full-length i l h = length-take-le (get_or lens i 0) (drop (get_or offs i 0) d) (omega (arith, length-drop (get_or offs i 0) d, (full-inside n offs lens (length d) ok i l h).1))

  -- what is moved ends where the moved files end
  ends-within : (c j : ℕ) → j < n → (under_at d offs lens c j ≡ []) ⊎ (get_or (places_moved_down n offs lens) j 0 + length (under_at d offs lens c j) ≤ header_size n + length_below n offs lens c)
  unfolding under_at
  ends-within c j l =
      ⊎_elim (λ k. ⊎_elim (λ h. inr (rw (lt-ltb (get_or offs j 0) c k, full-length j l h, place-full n offs lens (length d) ok j l h) (omega (arith, ends-below n offs lens c j l k)))) (λ h. inl (rw (lt-ltb (get_or offs j 0) c k) (empty-part j (omega arith)))) (under-or-not 0 (get_or lens j 0)))
      (λ k. inl (rw (le-ltb (get_or offs j 0) c k))) (under-or-not (get_or offs j 0) c)

  pub moves-start : (i : ℕ) → Next n offs lens (header_size n) n i → Moving n d offs lens (header_size n) (header_size n) i d
  unfolding moved_under under_at
  moves-start i x =
      record {
        next = x;
        ends = rw (below-start n offs lens (length d) ok) (sym (add-zero (header_size n)));
        behind = omega arith;
        same = refl;
        is = sym (painted-none (under_at d offs lens (header_size n)) (places_moved_down n offs lens) d n nothing);
      }
    where
      nothing : (j : ℕ) → j < n → under_at d offs lens (header_size n) j ≡ []
      nothing j l = ⊎_elim (λ h. rw (le-ltb (get_or offs j 0) (header_size n) (full-inside n offs lens (length d) ok j l h).0)) (λ h. by-test (λ r. r ≡ []) (ltb (get_or offs j 0) (header_size n)) (part_in d offs lens j) [] (λ e. empty-part j (omega arith)) (λ e. refl)) (under-or-not 0 (get_or lens j 0))

  module _ (c end i : ℕ) (cur : List ℕ) (m : Moving n d offs lens c end i cur) (l : i < n) where
    pub move-fits : {from size : ℕ} → from ≡ get_or offs i 0 → size ≡ get_or lens i 0 → (end ≤ from) × (from + size ≤ length cur) × (c < from + size) × (from + size ≤ length d)
    move-fits a b =
        let f = m.next.full l in
        let g = full-inside n offs lens (length d) ok i l f.0 in
        (omega (arith, m.behind, f.1), omega (arith, g.1, m.same), omega (arith, f.0, f.1), omega (arith, g.1))

    read : take (get_or lens i 0) (drop (get_or offs i 0) cur) ≡ part_in d offs lens i
    unfolding part_in moved_under
    read =
        ap (take (get_or lens i 0))
        (ap (drop (get_or offs i 0)) m.is ∙ painted-back (under_at d offs lens c) (places_moved_down n offs lens) d (get_or offs i 0) n
        (λ j k. ⊎_elim (λ e. inl e) (λ e. inr (omega (arith, e, m.ends, m.behind, (m.next.full l).1))) (ends-within c j k)))

    put : moved_under n d offs lens (get_or offs i 0 + get_or lens i 0) ≡ written cur end (part_in d offs lens i)
    unfolding moved_under under_at
    put =
        let f = m.next.full l in
        let p = place-next n offs lens (length d) ok c i m.next l in
        let h = here n offs lens (length d) ok c i m.next l in
        let v : under_at d offs lens (get_or offs i 0 + get_or lens i 0) i ≡ part_in d offs lens i = rw h.0 in
        let e = full-length i l f.0 in
        painted-put (under_at d offs lens c) (under_at d offs lens (get_or offs i 0 + get_or lens i 0)) (places_moved_down n offs lens) (places_moved_down n offs lens) d i
        (rw h.1) (omega (arith, p, ap length v, e, m.ends, m.behind, f.1, (full-inside n offs lens (length d) ok i l f.0).1)) n l
        (λ j k q. (⊎_elim (λ z. ap (λ r. cond (ltb (get_or offs j 0) c) r []) (empty-part j z) ∙ both-nothing (ltb (get_or offs j 0) c) (ltb (get_or offs j 0) (get_or offs i 0 + get_or lens i 0)) ∙ sym (ap (λ r. cond (ltb (get_or offs j 0) (get_or offs i 0 + get_or lens i 0)) r []) (empty-part j z))) (λ z. rw z) (same_test n offs lens (length d) ok c i m.next l j k q), refl))
        (λ j k q. ⊎_elim (λ z. inl z) (λ z. inr (omega (arith, z, m.ends, m.behind, f.1, (full-inside n offs lens (length d) ok i l f.0).1), inl (omega (arith, z, p)))) (ends-within c j k))
        ∙ rw (v, p, ← m.ends, ← m.is)
      where
        both-nothing : (t u : Bool) → ◌≡◌ {A = List ℕ} (cond t [] []) (cond u [] [])
        both-nothing true true = refl
        both-nothing true false = refl
        both-nothing false true = refl
        both-nothing false false = refl

    pub moves-turn : {from size after : ℕ} {last : List ℕ} → from ≡ get_or offs i 0 → size ≡ get_or lens i 0 → last ≡ written cur end (take size (drop from cur)) → length last ≡ length cur → Next n offs lens (from + size) n after → Moving n d offs lens (from + size) (end + size) after last
    moves-turn {from} {size} {after} {last} a b w s x =
        let f = move-fits a b in
        record {
          next = x;
          ends = rw (a, b, m.ends, below_next n offs lens (length d) ok c i m.next l) (omega arith);
          behind = omega (arith, f.0);
          same = s ∙ m.same;
          is = w ∙ rw (a, b, read) (sym put);
        }

  pub moves-end : (c end i : ℕ) (cur : List ℕ) → Moving n d offs lens c end i cur → n ≤ i → cur ≡ files_moved n d offs lens
  unfolding files_moved moved_under under_at
  moves-end c end i cur m l =
      m.is ∙ painted_same (under_at d offs lens c) (part_in d offs lens) (places_moved_down n offs lens) (places_moved_down n offs lens) d n (λ j k. (all j k, refl))
    where
      all : (j : ℕ) → j < n → under_at d offs lens c j ≡ part_in d offs lens j
      all j k = by-test (λ r. r ≡ part_in d offs lens j) (ltb (get_or offs j 0) c) (part_in d offs lens j) [] (λ e. refl) (λ e. ⊎_elim (λ h. absurd (omega (arith, (m.next.least j k h (ltb-false (get_or offs j 0) c e)).0))) (λ h. sym (empty-part j (omega arith))) (under-or-not 0 (get_or lens j 0)))

-- ---- moved where they stand apart
module _ (n : ℕ) (d offs lens : List ℕ) {t : Bool} (is : t ≡ stand_apart n offs lens (length d) n) where
  pub moved-so : {last : List ℕ} → t ≡ true → last ≡ files_moved n d offs lens → last ≡ moved_in n d offs lens
  unfolding moved_in
  moved-so e q = rw (sym is ∙ e) q
