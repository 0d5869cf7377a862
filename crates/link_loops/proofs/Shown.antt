-- The ring at the end of a way, written to the start of a list, is a loop; and when columns are links.
-- Assumes nothing.
use Prim.Native.Nat.{ℕ, zero, suc, ◌+◌, ◌-◌, ◌≤◌, ◌<◌}
use mathlib.Core.Path.{◌≡◌, refl, sym, ap, ◌∙◌}
use mathlib.Core.Bool.{Bool, true, false, true≢false}
use mathlib.Core.List.{List, [], ◌∷◌, ◌++◌}
use native.Mathlib.Numerals.{add-one}
use native.Mathlib.Omega.{arith}
use borrow.Author.Tests.{eq-eqb, ne_eqb, le-leb, lt-leb, lt-ltb, le-ltb, ltb-true}
use lib.ListN.{length, get_or, take, drop, length-append, length-drop, drop_of_length-le, replicate, length-replicate}
use lib.Seq.{drop-cons, take_at, drop_at, get_or-take, length-take-le}
use lib.Dec.{ltb}
use Rattle.json_bytes.proofs.Laws.{both_left, both_right}
use Rattle.mark_numbers.specs.Marks.{list_of}
use Rattle.mark_numbers.proofs.Laws.{Filled, list_at, list_length}
use Rattle.link_loops.specs.Loop.{IsLoop, ShowsRing}
use Rattle.link_loops.specs.Links.{link_leads, all_below, are_links, ShowsLinks}
use Rattle.link_loops.specs.Walk.{Chained, Unwalked, BlankColumns, RingAt, WalkEnded}
use Rattle.link_loops.proofs.Lists.{at}

module _ (from to way : List ℕ) (start end : ℕ) (ended : WalkEnded from to way start end) where
  -- the record numbers of the ring
  abbrev number : ℕ → ℕ
  number = λ (i : ℕ). get_or way (start + i) 0 + 1

  abbrev ring : List ℕ
  ring = list_of number (end - start)

  ring-at : (i : ℕ) → i < end - start → get_or ring i 0 ≡ get_or way (start + i) 0 + 1
  ring-at i h = list_at number (end - start) i h

  ring_long : length ring ≡ end - start
  ring_long = list_length number (end - start)

  module _ (some : start < end) where
    abbrev r : RingAt (length from) (at from) (at to) (at way) start end
    r = ended.ring some

    leads-on : (i j : ℕ) → i < end - start → j < end - start → get_or to (get_or way (start + i) 0) 0 ≡ get_or from (get_or way (start + j) 0) 0 → link_leads from to (get_or ring i 0) (get_or ring j 0) ≡ true
    unfolding link_leads
    leads-on i j h l e =
        let a : get_or ring i 0 - 1 ≡ get_or way (start + i) 0 = omega (arith, ring-at i h) in
        let b : get_or ring j 0 - 1 ≡ get_or way (start + j) 0 = omega (arith, ring-at j l) in
        rw (a, b) (eq-eqb (get_or to (get_or way (start + i) 0) 0) (get_or from (get_or way (start + j) 0) 0) e)

    ring-is : IsLoop (link_leads from to) (length from) ring
    ring-is =
        record {
          some = omega (arith, ring_long);
          records = λ i h. (omega (arith, ring-at i (omega (arith, ring_long))), omega (arith, ring-at i (omega (arith, ring_long)), r.records (start + i) (omega (arith, ring_long))));
          once = λ i j h l e. omega (arith, r.once (start + i) (start + j) (omega (arith, ring_long)) (omega (arith, ring_long)) (omega (arith, ring-at i (omega (arith, ring_long)), ring-at j (omega (arith, ring_long)))));
          next = λ i h. leads-on i (suc i) (omega (arith, ring_long)) (omega (arith, ring_long)) (r.next (start + i) (omega (arith, ring_long)) ∙ ap (λ x. get_or from (get_or way x 0) 0) (omega arith));
          round = leads-on (length ring - 1) 0 (omega (arith, ring_long)) (omega arith) (r.round (start + (length ring - 1)) (omega (arith, ring_long)) ∙ ap (λ x. get_or from (get_or way x 0) 0) (omega arith));
        }

  ring-shows : (before after : List ℕ) → length from ≤ length before → after ≡ ring ++ drop (end - start) before → ShowsRing (link_leads from to) (length from) (end - start) before after
  ring-shows before after room e =
      record {
        loop = λ h. rw (e, take_at ring (drop (end - start) before) (end - start) ring_long) (ring-is (omega arith));
        none = λ z. ended.none (omega (arith, ended.ordered));
        room = few;
        rest = rw (e, drop_at ring (drop (end - start) before) (end - start) ring_long);
        long = rw e (length-append ring (drop (end - start) before) ∙ omega (arith, ring_long, length-drop (end - start) before, few));
      }
    where
      few : end - start ≤ length before
      few = omega (arith, ended.inside)

  pub ring-shown : (before after : List ℕ) (r : ℕ) → length from ≤ length before → r ≡ end - start → after ≡ ring ++ drop (end - start) before → ShowsRing (link_leads from to) (length from) r before after
  ring-shown before after r room z e = rw z (ring-shows before after room e)

  -- what writing it asks
  pub ring-fits : length from ≤ 4096 → (room : ℕ) → length from ≤ room → (start ≤ end) × (end ≤ length way) × (end ≤ room) × (length way ≤ 4096) × ((j : ℕ) → j < end → get_or way j 0 < 4096)
  ring-fits few room l =
      (ended.ordered, omega (arith, ended.inside, ended.long), omega (arith, ended.inside), omega (arith, ended.long), λ j h. omega (arith, ended.links j h))

-- ---- each of some numbers
all_are : (n : ℕ) (s : List ℕ) → all_below n s ≡ true → (p : ℕ) → p < length s → get_or s p 0 < n
unfolding all_below
all_are n [] e p h = absurd (omega arith)
all_are n (x ∷ xs) e zero h = ltb-true x n (both_left (ltb x n) (all_below n xs) e)
all_are n (x ∷ xs) e (suc p) h = all_are n xs (both_right (ltb x n) (all_below n xs) e) p (omega arith)

pub below_each : (n : ℕ) (s : List ℕ) → ((p : ℕ) → p < length s → get_or s p 0 < n) → all_below n s ≡ true
unfolding all_below
below_each n [] h = refl
below_each n (x ∷ xs) h = rw (lt-ltb x n (h 0 (omega arith)), below_each n xs (λ p l. h (suc p) (omega arith)))

-- ---- the lists at the start of a walk
pub unwalked : {from to heads nexts heads' nexts' way mark list : List ℕ} → BlankColumns from to heads nexts way mark list → Chained from heads' nexts' → Unwalked from to heads' nexts' way mark
unwalked b c =
    record {
      chained = c;
      below = b.unchained.below;
      few = b.few;
      to-long = b.to-long;
      way_long = b.way_long;
      mark-long = b.mark-long;
      unseen = b.unseen;
    }

-- a list of one number, and a front of it
same_at : (v m i : ℕ) → i < m → get_or (replicate m v) i 0 ≡ v
same_at v zero i h = absurd (omega arith)
same_at v (suc m) zero h = refl
same_at v (suc m) (suc i) h = same_at v m i (omega arith)

front_at : (v m n i : ℕ) → n ≤ m → i < n → get_or (take n (replicate m v)) i 0 ≡ v
front_at v m n i l h = get_or-take n (replicate m v) i 0 h ∙ same_at v m i (omega arith)

front_long : (v m n : ℕ) → n ≤ m → length (take n (replicate m v)) ≡ n
front_long v m n l = length-take-le n (replicate m v) (omega (arith, length-replicate m v))

pub blank : (from to list : List ℕ) (m : ℕ) → length from ≤ m → m ≤ 4096 → length to ≡ length from → length from ≤ length list → all_below (length from) from ≡ true
    → BlankColumns from to (take (length from) (replicate m m)) (take (length from) (replicate m 0)) (take (length from) (replicate m 0)) (take (length from) (replicate m 0)) list
blank from to list m few most same room below =
    record {
      unchained =
          record {
            heads-long = front_long m m (length from) few;
            nexts-long = front_long 0 m (length from) few;
            below = all_are (length from) from below;
            empty = λ c h. omega (arith, front_at m m (length from) c few h);
          };
      few = omega arith;
      to-long = same;
      way_long = front_long 0 m (length from) few;
      mark-long = front_long 0 m (length from) few;
      unseen = λ c h. front_at 0 m (length from) c few h;
      room = room;
    }

-- ---- when columns are links
module _ (n : ℕ) (s : List ℕ) (i : ℕ) (inside : i < length s) where
  pub below_on : get_or s i 0 < n → all_below n (drop i s) ≡ all_below n (drop (i + 1) s)
  unfolding all_below
  below_on h = rw (drop-cons s i 0 inside, lt-ltb (get_or s i 0) n h, add-one i)

  pub below-not : n ≤ get_or s i 0 → all_below n (drop i s) ≡ false
  unfolding all_below
  below-not h = rw (drop-cons s i 0 inside, le-ltb (get_or s i 0) n h)

pub below_end : (n : ℕ) (s : List ℕ) (i : ℕ) → length s ≤ i → all_below n (drop i s) ≡ true
unfolding all_below
below_end n s i h = rw (drop_of_length-le s {i = i} h)

-- by each test
module _ (from to : List ℕ) (room : ℕ) where
  pub are-links : length from ≤ 4096 → length to ≡ length from → length from ≤ room → are_links from to room ≡ all_below (length from) from
  unfolding are_links
  are-links h e l = rw (le-leb (length from) 4096 h, eq-eqb (length to) (length from) e, le-leb (length from) room l)

  many-links : 4096 < length from → are_links from to room ≡ false
  unfolding are_links
  many-links h = rw (lt-leb (length from) 4096 h)

  other_length : length from ≤ 4096 → (length to ≡ length from → ⊥) → are_links from to room ≡ false
  unfolding are_links
  other_length h d = rw (le-leb (length from) 4096 h, ne_eqb (length to) (length from) d)

  short-list : length from ≤ 4096 → length to ≡ length from → room < length from → are_links from to room ≡ false
  unfolding are_links
  short-list h e l = rw (le-leb (length from) 4096 h, eq-eqb (length to) (length from) e, lt-leb (length from) room l)

-- what is shown then
module _ (from to : List ℕ) (list : List ℕ) where
  nothing-shown : are_links from to (length list) ≡ false → ShowsLinks from to 0 list list
  nothing-shown e = record { right = λ f. absurd (true≢false (sym f ∙ e)); wrong = λ f. (refl, refl) }

  pub too_many : 4096 < length from → ShowsLinks from to 0 list list
  too_many h = nothing-shown (many-links from to (length list) h)

  pub unequal : length from ≤ 4096 → (length to ≡ length from → ⊥) → ShowsLinks from to 0 list list
  unequal h d = nothing-shown (other_length from to (length list) h d)

  pub too_short : length from ≤ 4096 → length to ≡ length from → length list < length from → ShowsLinks from to 0 list list
  too_short h e l = nothing-shown (short-list from to (length list) h e l)

  pub not-below : length from ≤ 4096 → length to ≡ length from → length from ≤ length list → all_below (length from) from ≡ false → ShowsLinks from to 0 list list
  not-below h e l f = nothing-shown (are-links from to (length list) h e l ∙ f)

  pub links-shown : length from ≤ 4096 → length to ≡ length from → length from ≤ length list → all_below (length from) from ≡ true → (m : ℕ) (last : List ℕ) → ShowsRing (link_leads from to) (length from) m list last → ShowsLinks from to m list last
  links-shown h e l f m last s = record { right = λ g. s; wrong = λ g. absurd (true≢false (sym (are-links from to (length list) h e l ∙ f) ∙ g)) }

-- ---- a list that a loop filled up to place m
pub all-written : (f : ℕ → ℕ) (old : List ℕ) (i m : ℕ) {list : List ℕ} → Filled f old i list → i ≡ m → list ≡ list_of f m ++ drop m old
all-written f old i m w e = rw (← e) w.is

-- ---- what is shown is so for every test that agrees on the records
module _ (f g : ℕ → ℕ → Bool) (n : ℕ) (agree : (x y : ℕ) → 0 < x → x ≤ n → 0 < y → y ≤ n → f x y ≡ g x y) where
  loop-same : (ring : List ℕ) → IsLoop f n ring → IsLoop g n ring
  loop-same ring l =
      record {
        some = l.some;
        records = l.records;
        once = l.once;
        next = λ i h. sym (both-agree i (suc i) (omega arith) h) ∙ l.next i h;
        round = sym (both-agree (length ring - 1) 0 (omega (arith, l.some)) l.some) ∙ l.round;
      }
    where
      both-agree : (i j : ℕ) → i < length ring → j < length ring → f (get_or ring i 0) (get_or ring j 0) ≡ g (get_or ring i 0) (get_or ring j 0)
      both-agree i j a b =
          agree (get_or ring i 0) (get_or ring j 0) (l.records i a).0 (l.records i a).1 (l.records j b).0 (l.records j b).1

module _ (f g : ℕ → ℕ → Bool) (n : ℕ) (agree : (x y : ℕ) → 0 < x → x ≤ n → 0 < y → y ≤ n → f x y ≡ g x y) where
  pub shows_same : (m : ℕ) (before after : List ℕ) → ShowsRing f n m before after → ShowsRing g n m before after
  shows_same m before after s =
      record {
        loop = λ h. loop-same f g n agree (take m after) (s.loop h);
        none = λ z ring l. s.none z ring (loop-same g f n (λ x y a b c d. sym (agree x y a b c d)) ring l);
        room = s.room;
        rest = s.rest;
        long = s.long;
      }
