-- The gaps of a drawer from one file to the next.
-- Assumes nothing.
use Prim.Native.Nat.{ℕ, zero, suc, ◌+◌, ◌-◌, ◌≤◌, ◌<◌}
use mathlib.Core.Path.{◌≡◌, refl, sym, ap, ◌∙◌}
use mathlib.Core.Bool.{Bool, true, false, cond, ◌&&◌}
use mathlib.Core.Logic.{◌⊎◌, inl, inr, ⊎_elim}
use mathlib.Core.List.{List, [], ◌++◌}
use native.Mathlib.Nat.{add-zero}
use native.Mathlib.Numerals.{add-one}
use native.Mathlib.Omega.{arith}
use borrow.Author.Tests.{ltb-true, leb-true, eqb-true, eqb-false, lt-ltb, le-ltb, le-leb, lt-leb, ne_eqb, eq-eqb}
use lib.ListN.{get_or}
use lib.Dec.{ltb, leb, eqb}
use Rattle.json_bytes.proofs.Laws.{both_left, both_right}
use Rattle.bundle_layout.specs.Bundle.{header_size}
use Rattle.drawer_layout.specs.Places.{is_in_way, is_free, stand_apart}
use Rattle.drawer_layout.proofs.Laws.{laid, last-or-before, under-or-not, not_so, share-parts, share-all, free-not, each_free}
use Rattle.output.specs.Output.{Output, put}
use Rattle.output.proofs.Puts.{put_then}
use Rattle.drawer_text.specs.declared.Stretch.{Stretch}
use Rattle.drawer_text.specs.List.{free_run, opens_gap, gap_line, gap_lines}
use Rattle.drawer_text.specs.Ahead.{stretch, nearer_to, file_ahead}

clash : true ≡ false → ⊥
clash z = let y : ◌≡◌ {A = ℕ} 0 1 = cc in omega arith

-- ---- the next file
module _ (c : ℕ) (best : Stretch) (o l : ℕ) where
  -- as the code finds out
  pub nearer-empty : l ≡ 0 → best ≡ nearer_to c best o l
  unfolding nearer_to
  nearer-empty e = rw e

  pub nearer-before : o < c → best ≡ nearer_to c best o l
  unfolding nearer_to
  nearer-before h = go (ltb 0 l) refl
    where
      go : (t : Bool) → ltb 0 l ≡ t → best ≡ nearer_to c best o l
      go true e = rw (e, lt-leb c o h)
      go false e = rw e

  pub nearer-behind : best.start ≤ o → best ≡ nearer_to c best o l
  unfolding nearer_to
  nearer-behind h = go (ltb 0 l) refl (leb c o) refl
    where
      go : (t : Bool) → ltb 0 l ≡ t → (u : Bool) → leb c o ≡ u → best ≡ nearer_to c best o l
      go true e true f = rw (e, f, le-ltb o best.start h)
      go true e false f = rw (e, f)
      go false e u f = rw e

  pub nearer-is : 0 < l → c ≤ o → o < best.start → stretch o (o + l) ≡ nearer_to c best o l
  unfolding nearer_to
  nearer-is a b h = rw (lt-ltb 0 l a, le-leb c o b, lt-ltb o best.start h)

-- file j has bytes, starts at c or later, and is that stretch
pub record Starts (offs lens : List ℕ) (c i : ℕ) (b : Stretch) (j : ℕ) : Type 0 where
  pub within : j < i
  pub full : 0 < get_or lens j 0
  pub from : c ≤ get_or offs j 0
  pub start_is : b.start ≡ get_or offs j 0
  pub end_is : b.end ≡ get_or offs j 0 + get_or lens j 0

-- the next of the first i files: none starts before it, and it is one of them or the drawer's end
pub record Ahead (offs lens : List ℕ) (c room i : ℕ) (b : Stretch) : Type 0 where
  pub below : b.start ≤ room
  pub least : (j : ℕ) → j < i → 0 < get_or lens j 0 → c ≤ get_or offs j 0 → b.start ≤ get_or offs j 0
  pub is : ((b.start ≡ room) × (b.end ≡ room)) ⊎ ((j : ℕ) × Starts offs lens c i b j)

module _ (offs lens : List ℕ) (c room : ℕ) where
  -- one file more
  later : (i : ℕ) (b : Stretch) (j : ℕ) → Starts offs lens c i b j → Starts offs lens c (suc i) b j
  later i b j s = record { within = omega (arith, s.within); full = s.full; from = s.from; start_is = s.start_is; end_is = s.end_is }

  -- it is nearer
  ahead-new : (i : ℕ) (b : Stretch) → Ahead offs lens c room i b → 0 < get_or lens i 0 → c ≤ get_or offs i 0 → get_or offs i 0 < b.start → Ahead offs lens c room (suc i) (stretch (get_or offs i 0) (get_or offs i 0 + get_or lens i 0))
  ahead-new i b a l f h =
      record {
        below = omega (arith, a.below);
        least = λ j w g k. ⊎_elim (λ e. rw e (omega arith)) (λ v. omega (arith, a.least j v g k)) (last-or-before j i w);
        is = inr (i, record { within = omega arith; full = l; from = f; start_is = refl; end_is = refl });
      }

  -- it is not
  ahead-old : (i : ℕ) (b : Stretch) → Ahead offs lens c room i b → (0 < get_or lens i 0 → c ≤ get_or offs i 0 → b.start ≤ get_or offs i 0) → Ahead offs lens c room (suc i) b
  ahead-old i b a f =
      record {
        below = a.below;
        least = λ j w g k. ⊎_elim (λ e. rw e (f (rw e at g) (rw e at k))) (λ v. a.least j v g k) (last-or-before j i w);
        is = ⊎_elim (λ z. inl z) (λ z. inr (z.0, later i b z.0 z.1)) a.is;
      }

  ahead-next : (i : ℕ) (b : Stretch) → Ahead offs lens c room i b → Ahead offs lens c room (suc i) (nearer_to c b (get_or offs i 0) (get_or lens i 0))
  unfolding nearer_to
  ahead-next i b a = go (ltb 0 (get_or lens i 0) && (leb c (get_or offs i 0) && ltb (get_or offs i 0) b.start)) refl
    where
      go : (t : Bool) → (ltb 0 (get_or lens i 0) && (leb c (get_or offs i 0) && ltb (get_or offs i 0) b.start)) ≡ t → Ahead offs lens c room (suc i) (nearer_to c b (get_or offs i 0) (get_or lens i 0))
      go true e =
          let r = both_right (ltb 0 (get_or lens i 0)) (leb c (get_or offs i 0) && ltb (get_or offs i 0) b.start) e in
          rw e
          (ahead-new i b a (ltb-true 0 (get_or lens i 0) (both_left (ltb 0 (get_or lens i 0)) (leb c (get_or offs i 0) && ltb (get_or offs i 0) b.start) e))
          (leb-true c (get_or offs i 0) (both_left (leb c (get_or offs i 0)) (ltb (get_or offs i 0) b.start) r))
          (ltb-true (get_or offs i 0) b.start (both_right (leb c (get_or offs i 0)) (ltb (get_or offs i 0) b.start) r)))
      go false e =
          rw e
          (ahead-old i b a
          (λ l f. ⊎_elim
          (λ h. let z : (ltb 0 (get_or lens i 0) && (leb c (get_or offs i 0) && ltb (get_or offs i 0) b.start)) ≡ true = rw (lt-ltb 0 (get_or lens i 0) l, le-leb c (get_or offs i 0) f, lt-ltb (get_or offs i 0) b.start h) in absurd (clash (sym z ∙ e)))
          (λ h. h) (under-or-not (get_or offs i 0) b.start)))

  ahead : (i : ℕ) → Ahead offs lens c room i (file_ahead offs lens c room i)
  unfolding file_ahead
  ahead zero = record { below = omega arith; least = λ j w. absurd (omega arith); is = inl (refl, refl) }
  ahead (suc i) = ahead-next i (file_ahead offs lens c room i) (ahead i)

  pub ahead_of : {b : Stretch} (n : ℕ) → b ≡ file_ahead offs lens c room n → Ahead offs lens c room n b
  ahead_of n e = rw e (ahead n)

  -- as the code finds out
  pub ahead-turn : (i : ℕ) {b r : Stretch} {o l : ℕ} → b ≡ file_ahead offs lens c room i → o ≡ get_or offs i 0 → l ≡ get_or lens i 0 → r ≡ nearer_to c b o l → r ≡ file_ahead offs lens c room (i + 1)
  unfolding file_ahead
  ahead-turn i e f g h = rw (add-one i, file_ahead, ← e, ← f, ← g) h

  pub ahead-end : (i : ℕ) {b : Stretch} → b ≡ file_ahead offs lens c room i → i ≡ 20 → b ≡ file_ahead offs lens c room 20
  ahead-end i e h = e ∙ ap (file_ahead offs lens c room) h

-- ---- gaps over bytes
module _ (n : ℕ) (offs lens : List ℕ) where
  -- t free bytes, and no more
  pub run_is : (t m p : ℕ) → t ≤ m → ((q : ℕ) → p ≤ q → q < p + t → is_free offs lens q 1 n ≡ true) → (m ≡ t) ⊎ (is_free offs lens (p + t) 1 n ≡ false) → free_run n offs lens m p ≡ t
  unfolding free_run
  run_is zero zero p l f e = refl
  run_is zero (suc m) p l f e =
      let h : is_free offs lens p 1 n ≡ false = ⊎_elim (λ z. absurd (omega arith)) (λ z. rw (add-zero p) at z) e in
      rw h
  run_is (suc t) zero p l f e = absurd (omega arith)
  run_is (suc t) (suc m) p l f e =
      let at : p + suc t ≡ suc p + t = omega arith in
      let e' : (m ≡ t) ⊎ (is_free offs lens (suc p + t) 1 n ≡ false) = ⊎_elim (λ z. inl (omega arith)) (λ z. inr (rw at at z)) e in
      rw (f p (omega arith) (omega arith), free_run, run_is t m (suc p) (omega arith) (λ q a b. f q (omega arith) (omega arith)) e')

  -- places that have no line
  skip : (t m p : ℕ) → ((q : ℕ) → p ≤ q → q < p + t → (opens_gap n offs lens q ≡ false) ⊎ (is_free offs lens q 1 n ≡ false)) → gap_lines n offs lens m p ≡ gap_lines n offs lens (m - t) (p + t)
  unfolding gap_lines gap_line free_run
  skip zero m p f = let a : m - 0 ≡ m = omega arith in rw (a, add-zero p)
  skip (suc t) zero p f = let a : 0 - suc t ≡ 0 = omega arith in rw a
  skip (suc t) (suc m) p f =
      let a : suc m - suc t ≡ m - t = omega arith in
      let b : p + suc t ≡ suc p + t = omega arith in
      rw (a, b)
      (⊎_elim (λ e. rw e (skip t m (suc p) (λ q l h. f q (omega arith) (omega arith))))
      (λ e. none (opens_gap n offs lens p) e ∙ skip t m (suc p) (λ q l h. f q (omega arith) (omega arith)))
      (f p (omega arith) (omega arith)))
    where
      none : (t : Bool) → is_free offs lens p 1 n ≡ false → cond t (gap_line p (free_run n offs lens (suc m) p)) [] ++ gap_lines n offs lens m (suc p) ≡ gap_lines n offs lens m (suc p)
      none true e = rw e
      none false e = refl

  module _ (room : ℕ) where
    -- the free bytes from p to s, then taken ones up to e, are one line
    stretch-lines : (p s e : ℕ) → header_size n ≤ p → p < room → opens_gap n offs lens p ≡ true → p ≤ s → s ≤ e → p < e → e ≤ room → ((q : ℕ) → p ≤ q → q < s → is_free offs lens q 1 n ≡ true) → ((q : ℕ) → s ≤ q → q < e → is_free offs lens q 1 n ≡ false) → (s ≡ room) ⊎ (s < e) → gap_lines n offs lens (room - p) p ≡ gap_line p (s - p) ++ gap_lines n offs lens (room - e) e
    unfolding gap_lines opens_gap
    stretch-lines p s e h l o a b c d free taken ends =
        let m = room - suc p in
        let is : room - p ≡ suc m = omega arith in
        let up : p + (s - p) ≡ s = omega arith in
        let stop : (suc m ≡ s - p) ⊎ (is_free offs lens (p + (s - p)) 1 n ≡ false) = ⊎_elim (λ z. inl (omega arith)) (λ z. inr (rw up (taken s (omega arith) z))) ends in
        let rest : gap_lines n offs lens m (suc p) ≡ gap_lines n offs lens (m - (e - suc p)) (suc p + (e - suc p)) = skip (e - suc p) m (suc p) (λ q x y. ⊎_elim (λ z. inl (behind q x z)) (λ z. inr (taken q z (omega arith))) (under-or-not q s)) in
        let left : m - (e - suc p) ≡ room - e = omega arith in
        let at : suc p + (e - suc p) ≡ e = omega arith in
        rw (is, gap_lines, o, run_is (s - p) (suc m) p (omega arith) (λ q x y. free q x (omega arith)) stop) (ap (λ v. gap_line p (s - p) ++ v) (rw (left, at) at rest))
      where
        behind : (q : ℕ) → suc p ≤ q → q < s → opens_gap n offs lens q ≡ false
        behind q x y = rw (ne_eqb q (header_size n) (λ z. omega arith), free (q - 1) (omega arith) (omega arith))

-- ---- from one file to the next
-- p is the header's end or the end of a file, and the files that start before it end before it
pub record Scan (n : ℕ) (offs lens : List ℕ) (room p : ℕ) : Type 0 where
  pub behind : header_size n ≤ p
  pub opens : p < room → opens_gap n offs lens p ≡ true
  pub clear : (j : ℕ) → j < n → 0 < get_or lens j 0 → get_or offs j 0 < p → get_or offs j 0 + get_or lens j 0 ≤ p

module _ (n : ℕ) (offs lens : List ℕ) (room : ℕ) (stand : stand_apart n offs lens room n ≡ true) where
  pub scan-start : Scan n offs lens room (header_size n)
  unfolding opens_gap
  scan-start =
      record {
        behind = omega arith;
        opens = λ l. rw (eq-eqb (header_size n) (header_size n) refl);
        clear = λ j w l h. ⊎_elim (λ z. absurd (omega (arith, z.1))) (λ z. absurd (omega (arith, z.0))) ((laid n offs lens room stand).stands j w);
      }

  module _ (p : ℕ) (scan : Scan n offs lens room p) (l : p < room) {b : Stretch} (a : Ahead offs lens p room n b) where
    pub start-from : p ≤ b.start
    start-from = ⊎_elim (λ z. omega (arith, z.0)) (λ z. omega (arith, z.1.from, z.1.start_is)) a.is

    free_bytes : (q : ℕ) → p ≤ q → q < b.start → is_free offs lens q 1 n ≡ true
    unfolding is_in_way
    free_bytes q h k =
        each_free offs lens q 1 n
        (λ j w. not_so _ (λ e.
        let s = share-parts q 1 (get_or offs j 0) (get_or lens j 0) e in
        ⊎_elim (λ z. omega (arith, scan.clear j w s.1 z, s.3)) (λ z. omega (arith, a.least j w s.1 z, s.2)) (under-or-not (get_or offs j 0) p)))

    taken-byte : (j : ℕ) → Starts offs lens p n b j → (q : ℕ) → b.start ≤ q → q < b.end → is_free offs lens q 1 n ≡ false
    unfolding is_in_way
    taken-byte j s q h k =
        free-not offs lens q 1 n j s.within
        (share-all q 1 (get_or offs j 0) (get_or lens j 0) (omega arith) s.full (omega (arith, s.start_is)) (omega (arith, s.end_is)))

    taken-bytes : (q : ℕ) → b.start ≤ q → q < b.end → is_free offs lens q 1 n ≡ false
    taken-bytes q h k = ⊎_elim (λ z. absurd (omega (arith, z.0, z.1))) (λ z. taken-byte z.0 z.1 q h k) a.is

    ends-right : (b.start ≤ b.end) × (p < b.end) × (b.end ≤ room)
    ends-right =
        ⊎_elim (λ z. (omega (arith, z.0, z.1), omega (arith, z.1), omega (arith, z.1)))
        (λ z. let s = z.1 in (omega (arith, s.start_is, s.end_is), omega (arith, s.full, s.from, s.end_is), ⊎_elim (λ y. absurd (omega (arith, y.1, s.full))) (λ y. omega (arith, y.1, s.end_is)) ((laid n offs lens room stand).stands z.0 s.within)))
        a.is

    pub end-grows : p < b.end
    end-grows = ends-right.1

    pub scan-next : Scan n offs lens room b.end
    unfolding opens_gap
    scan-next =
        record {
          behind = omega (arith, scan.behind, ends-right.1);
          opens = λ h. ⊎_elim (λ z. absurd (omega (arith, z.1))) (λ z. let s = z.1 in rw (ne_eqb b.end (header_size n) (λ y. omega (arith, scan.behind, ends-right.1)), taken-byte z.0 s (b.end - 1) (omega (arith, s.full, s.start_is, s.end_is)) (omega (arith, ends-right.1)))) a.is;
          clear = λ j w f h. ⊎_elim (λ z. ⊎_elim (λ y. absurd (omega (arith, y.1))) (λ y. omega (arith, y.1, z.1)) ((laid n offs lens room stand).stands j w)) (λ z. clear_at j w f h z.0 z.1) a.is;
        }
      where
        clear_at : (j : ℕ) → j < n → 0 < get_or lens j 0 → get_or offs j 0 < b.end → (i : ℕ) → Starts offs lens p n b i → get_or offs j 0 + get_or lens j 0 ≤ b.end
        clear_at j w f h i s = go (eqb j i) refl
          where
            go : (t : Bool) → eqb j i ≡ t → get_or offs j 0 + get_or lens j 0 ≤ b.end
            go true e = let same = eqb-true j i e in rw same (omega (arith, s.end_is))
            go false e =
                ⊎_elim (λ y. omega (arith, y, s.start_is, ends-right.0)) (λ y. absurd (omega (arith, y, s.end_is)))
                ((laid n offs lens room stand).apart j i w s.within (eqb-false j i e) f s.full)

    pub lines_next : gap_lines n offs lens (room - p) p ≡ gap_line p (b.start - p) ++ gap_lines n offs lens (room - b.end) b.end
    lines_next =
        stretch-lines n offs lens room p b.start b.end scan.behind l (scan.opens l) start-from ends-right.0 ends-right.1 ends-right.2 free_bytes taken-bytes
        (⊎_elim (λ z. inl z.0) (λ z. inr (omega (arith, z.1.full, z.1.start_is, z.1.end_is))) a.is)

    -- as a loop puts them
    pub gaps-next : (o : Output) {u w : Output} → w ≡ put o (gap_line p (b.start - p)) → put o (gap_lines n offs lens (room - p) p) ≡ u → put w (gap_lines n offs lens (room - b.end) b.end) ≡ u
    gaps-next o e h = put_then o (gap_line p (b.start - p)) (gap_lines n offs lens (room - b.end) b.end) e refl ∙ (rw lines_next at h)

  pub gaps-end : (p : ℕ) (o : Output) {u : Output} → room ≤ p → put o (gap_lines n offs lens (room - p) p) ≡ u → o ≡ u
  unfolding gap_lines put
  gaps-end p o l h = let z : room - p ≡ 0 = omega arith in rw (z, gap_lines) at h
