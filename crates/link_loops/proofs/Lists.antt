-- The walk over lists of numbers: each turn keeps what is known, and brings what is left down.
-- Assumes nothing.
use Prim.Native.Nat.{ℕ, zero, suc, ◌+◌, ◌*◌, ◌-◌, ◌≤◌, ◌<◌}
use mathlib.Core.Path.{◌≡◌, refl, sym, ◌∙◌}
use mathlib.Core.Bool.{Bool, true, false, cond}
use mathlib.Core.List.{List, [], ◌∷◌}
use native.Mathlib.Numerals.{add-one}
use native.Mathlib.Nat.{suc-mul}
use native.Mathlib.Omega.{arith}
use borrow.Author.Tests.{ne_eqb, eqb-true, ltb-true, ltb-false, lt-ltb, le-ltb}
use lib.ListN.{length, get_or, set, length-set}
use lib.Seq.{get_or-set_same, get_or-set_other}
use lib.Dec.{ltb, eqb}
use Rattle.link_loops.specs.Links.{link_leads, seen_of}
use Rattle.link_loops.specs.Walk.{Least, Chained, Unwalked, RingAt, WalkEnded}
use Rattle.link_loops.proofs.None.{no_loop}
use Rattle.link_loops.proofs.Turns.{same_or_not, less-or-not, Settled, Walk, starts, entered, advanced, left, ring-found, falls-everywhere}

-- what stands in a list
abbrev pub at : List ℕ → ℕ → ℕ
at l = λ (i : ℕ). get_or l i 0

-- ---- how many classes are new
unfoldable pub one-if : ℕ → ℕ
one-if x = cond (eqb x 0) 1 0

unfoldable pub new_in : List ℕ → ℕ
new_in [] = 0
new_in (x ∷ xs) = one-if x + new_in xs

new-set : (l : List ℕ) (i v : ℕ) → i < length l → new_in (set l i v) + one-if (get_or l i 0) ≡ new_in l + one-if v
unfolding new_in
new-set [] i v h = absurd (omega arith)
new-set (x ∷ xs) zero v h = omega arith
new-set (x ∷ xs) (suc i) v h = omega (arith, new-set xs i v (omega arith))

is_one : (x : ℕ) → x ≡ 0 → one-if x ≡ 1
unfolding one-if
is_one x e = rw e

is_none : (x : ℕ) → (x ≡ 0 → ⊥) → one-if x ≡ 0
unfolding one-if
is_none x d = rw (ne_eqb x 0 d)

all_new : (l : List ℕ) → ((i : ℕ) → i < length l → get_or l i 0 ≡ 0) → new_in l ≡ length l
unfolding new_in
all_new [] h = refl
all_new (x ∷ xs) h =
    omega (arith, is_one x (h 0 (omega arith)), all_new xs (λ i l. h (suc i) (omega arith)))

-- ---- what is left: of new classes, of steps back, of links behind the way's end, of roots
unfoldable pub top : ℕ → List ℕ → ℕ → ℕ
top n way zero = n
top n way (suc j) = get_or way j 0

top-at : (n : ℕ) (way : List ℕ) (j k : ℕ) → j + 1 ≡ k → top n way k ≡ get_or way j 0
unfolding top
top-at n way j k e = rw (← e, add-one j)

unfoldable pub remaining : ℕ → List ℕ → List ℕ → ℕ → ℕ → ℕ
remaining n way mark k root = new_in mark * (n + n + 3) + k * (n + 1) + (n - top n way k) + (n - root)

one_more : (a b : ℕ) → (a + 1) * b ≡ a * b + b
one_more a b = rw (add-one a) (suc-mul a b)

-- ---- what is seen of a class, by its tests
module _ (heads mark : List ℕ) (c : ℕ) where
  pub no-class : length mark ≤ c → length mark + 1 ≡ seen_of heads mark c
  unfolding seen_of
  no-class h = rw (le-ltb c (length mark) h)

  pub no-link : c < length mark → length mark ≤ get_or heads c 0 → length mark + 1 ≡ seen_of heads mark c
  unfolding seen_of
  no-link h l = rw (lt-ltb c (length mark) h, le-ltb (get_or heads c 0) (length mark) l)

  pub its-mark : c < length mark → get_or heads c 0 < length mark → get_or mark c 0 ≡ seen_of heads mark c
  unfolding seen_of
  its-mark h l = rw (lt-ltb c (length mark) h, lt-ltb (get_or heads c 0) (length mark) l)

module _ (from to heads nexts : List ℕ) where
  abbrev n : ℕ
  n = length from

  pub record Walking (way mark : List ℕ) (k done root : ℕ) : Type 0 where
    pub chained : Chained from heads nexts
    pub below : (p : ℕ) → p < length from → get_or from p 0 < length from
    pub few : length from ≤ 4096
    pub to-long : length to ≡ length from
    pub way_long : length way ≡ length from
    pub mark-long : length mark ≡ length from
    pub walk : Walk (length from) (at from) (at to) (at way) (at mark) k done
    pub counted : new_in mark + k + done ≡ length from
    pub met : (p : ℕ) → p < root → 0 < get_or mark (get_or from p 0) 0
    pub over : length from ≤ root → k ≡ 0
    pub roots : root ≤ length from

  pub walk-starts : {way mark : List ℕ} → Unwalked from to heads nexts way mark → Walking way mark 0 0 0
  walk-starts {way} {mark} u =
      record {
        chained = u.chained;
        below = u.below;
        few = u.few;
        to-long = u.to-long;
        way_long = u.way_long;
        mark-long = u.mark-long;
        walk = starts n (at from) (at to) (at way) (at mark) u.unseen u.below;
        counted = omega (arith, u.mark-long, all_new mark (λ i h. u.unseen i (omega (arith, u.mark-long))));
        met = λ p h. absurd (omega arith);
        over = λ h. refl;
        roots = omega arith;
      }

  module _ {way mark : List ℕ} {k done root : ℕ} (w : Walking way mark k done root) where
    pub steps-few : k ≤ n
    steps-few = omega (arith, w.counted)

    -- while a class is new, there is room for it on the way
    pub room-left : (c : ℕ) → c < n → get_or mark c 0 ≡ 0 → k < n
    room-left c h z =
        omega (arith, w.counted, new-set mark c 1 (omega (arith, w.mark-long)), is_one (get_or mark c 0) z, is_none 1 (λ e. omega arith))

    -- a root is a link of its class, which so has a first one
    pub root-headed : root < n → get_or heads (get_or from root 0) 0 < n
    root-headed h =
        omega (arith, (w.chained.heads-are (get_or from root 0) (w.below root h)).first root (omega arith) h refl)

    -- a root that was met before is passed
    pub root-passed : root < n → k ≡ 0 → (get_or mark (get_or from root 0) 0 ≡ 0 → ⊥) → Walking way mark k done (root + 1) × (remaining n way mark k (root + 1) < remaining n way mark k root)
    unfolding remaining
    root-passed h z d = (
      record {
        chained = w.chained;
        below = w.below;
        few = w.few;
        to-long = w.to-long;
        way_long = w.way_long;
        mark-long = w.mark-long;
        walk = w.walk;
        counted = w.counted;
        met = λ p l. same_or_not p root (λ e. rw e (less-or-not 0 (get_or mark (get_or from root 0) 0) (λ x. x) (λ x. absurd (d (omega arith))))) (λ u. w.met p (less-or-not p root (λ x. x) (λ x. absurd (u (omega arith)))));
        over = λ l. z;
        roots = omega arith;
      },
      omega arith,
    )

    -- a new class is entered
    module _ (c : ℕ) (inside : c < n) (new : get_or mark c 0 ≡ 0) (some : get_or heads c 0 < n) (rooted : root < n) (led : (j : ℕ) → j + 1 ≡ k → get_or to (get_or way j 0) 0 ≡ c)
        {way' mark' : List ℕ} (way-is : way' ≡ set way k (get_or heads c 0)) (mark-is : mark' ≡ set mark c (k + 1)) where
      one_less : new_in mark' + 1 ≡ new_in mark
      one_less =
          rw mark-is (omega (arith, new-set mark c (k + 1) (omega (arith, w.mark-long)), is_one (get_or mark c 0) new, is_none (k + 1) (λ e. omega arith)))

      short : k < n
      short = room-left c inside new

      way-there : get_or way' k 0 ≡ get_or heads c 0
      way-there = rw way-is (get_or-set_same way k (get_or heads c 0) 0 (omega (arith, w.way_long, short)))

      mark-there : get_or mark' c 0 ≡ k + 1
      mark-there = rw mark-is (get_or-set_same mark c (k + 1) 0 (omega (arith, w.mark-long)))

      mark-else : (x : ℕ) → (x ≡ c → ⊥) → get_or mark' x 0 ≡ get_or mark x 0
      mark-else x d = rw mark-is (get_or-set_other mark c x (k + 1) 0 d)

      fewer : new_in mark * (n + n + 3) ≡ new_in mark' * (n + n + 3) + (n + n + 3)
      fewer = rw (← one_less) (one_more (new_in mark') (n + n + 3))

      goes-into : Walk n (at from) (at to) (at way') (at mark') (k + 1) done
      goes-into =
          entered n (at from) (at to) w.below w.walk c (get_or heads c 0) inside new short (w.chained.heads-are c inside) some led way-there (λ j d. rw way-is (get_or-set_other way k j (get_or heads c 0) 0 d)) mark-there mark-else

      pub went-into : Walking way' mark' (k + 1) done root × (remaining n way' mark' (k + 1) root < remaining n way mark k root)
      unfolding remaining
      went-into = (
        record {
          chained = w.chained;
          below = w.below;
          few = w.few;
          to-long = w.to-long;
          way_long = rw way-is (length-set way k (get_or heads c 0)) ∙ w.way_long;
          mark-long = rw mark-is (length-set mark c (k + 1)) ∙ w.mark-long;
          walk = goes-into;
          counted = omega (arith, one_less, w.counted);
          met = λ p l. same_or_not (get_or from p 0) c (λ e. rw (e, mark-there) (omega arith)) (λ d. omega (arith, mark-else (get_or from p 0) d, w.met p l));
          over = λ l. absurd (omega arith);
          roots = w.roots;
        },
        omega (arith, fewer, one_more k (n + 1), top-at n way' k (k + 1) refl),
      )

    -- ---- what is seen behind the way's end, link j of it
    module _ (v c : ℕ) (v-is : v ≡ seen_of heads mark c) where
      seen-inside : v ≤ n → (c < n) × (get_or heads c 0 < n) × (v ≡ get_or mark c 0)
      unfolding seen_of
      seen-inside h = go (ltb c (length mark)) refl (ltb (get_or heads c 0) (length mark)) refl v-is
        where
          go : (s : Bool) → ltb c (length mark) ≡ s → (t : Bool) → ltb (get_or heads c 0) (length mark) ≡ t → v ≡ cond s (cond t (get_or mark c 0) (length mark + 1)) (length mark + 1) → (c < n) × (get_or heads c 0 < n) × (v ≡ get_or mark c 0)
          go true e true f g = (omega (arith, w.mark-long, ltb-true c (length mark) e), omega (arith, w.mark-long, ltb-true (get_or heads c 0) (length mark) f), g)
          go true e false f g = absurd (omega (arith, w.mark-long))
          go false e t f g = absurd (omega (arith, w.mark-long))

      seen-through : n < v → (q : ℕ) → q < n → get_or from q 0 ≡ c → n < get_or mark (get_or from q 0) 0
      unfolding seen_of
      seen-through h q l e = go (ltb c (length mark)) refl (ltb (get_or heads c 0) (length mark)) refl v-is
        where
          go : (s : Bool) → ltb c (length mark) ≡ s → (t : Bool) → ltb (get_or heads c 0) (length mark) ≡ t → v ≡ cond s (cond t (get_or mark c 0) (length mark + 1)) (length mark + 1) → n < get_or mark (get_or from q 0) 0
          go true a true b g = rw e (omega arith)
          go true a false b g =
              absurd (omega (arith, w.mark-long, ltb-false (get_or heads c 0) (length mark) b, (w.chained.heads-are c (omega (arith, w.mark-long, ltb-true c (length mark) a))).first q (omega arith) l e))
          go false a t b g = absurd (omega (arith, w.mark-long, ltb-false c (length mark) a, w.below q l))

    pub link-inside : (j : ℕ) → j + 1 ≡ k → get_or way j 0 < n
    link-inside j ends = w.walk.links j (omega arith)

    pub class-inside : (j : ℕ) → j + 1 ≡ k → get_or from (get_or way j 0) 0 < n
    class-inside j ends = w.below (get_or way j 0) (link-inside j ends)

    module _ (j : ℕ) (ends : j + 1 ≡ k) (v : ℕ) (v-is : v ≡ seen_of heads mark (get_or to (get_or way j 0) 0)) where
      -- a new class
      pub seen-new : v ≡ 0 → (get_or to (get_or way j 0) 0 < n) × (get_or mark (get_or to (get_or way j 0) 0) 0 ≡ 0) × (get_or heads (get_or to (get_or way j 0) 0) 0 < n)
      seen-new z = let s = seen-inside v _ v-is (omega arith) in (s.0, omega (arith, s.2), s.1)

      -- one that is on the way: a loop
      pub seen-ring : (v ≡ 0 → ⊥) → v ≤ n → WalkEnded from to way (v - 1) k
      seen-ring d l =
          let s = seen-inside v _ v-is l in
          let r : RingAt n (at from) (at to) (at way) (v - 1) k = rw s.2 (ring-found n (at from) (at to) w.below w.walk j _ ends refl s.0 (less-or-not 0 _ (λ x. x) (λ x. absurd (d (omega (arith, s.2))))) (omega (arith, s.2)) steps-few) in
          record {
            long = w.way_long;
            ordered = omega (arith, r.some);
            inside = steps-few;
            links = w.walk.links;
            ring = λ h. r;
            none = λ e. absurd (omega (arith, r.some));
          }

      -- one that is through: the next link of the class at the way's end, or none
      module _ (through : n < v) where
        settled : Settled n (at from) (at to) (at mark) (get_or way j 0)
        settled = record { through = λ q l e. seen-through v _ v-is through q l e }

        least : Least n (at from) (get_or way j 0 + 1) (get_or from (get_or way j 0) 0) (get_or nexts (get_or way j 0) 0)
        least = w.chained.nexts-are (get_or way j 0) (link-inside j ends)

        pub went_on : get_or nexts (get_or way j 0) 0 < n → {way' : List ℕ} → way' ≡ set way j (get_or nexts (get_or way j 0) 0) → Walking way' mark k done root × (remaining n way' mark k root < remaining n way mark k root)
        unfolding remaining
        went_on some {way'} way-is = (
          record {
            chained = w.chained;
            below = w.below;
            few = w.few;
            to-long = w.to-long;
            way_long = rw way-is (length-set way j (get_or nexts (get_or way j 0) 0)) ∙ w.way_long;
            mark-long = w.mark-long;
            walk = advanced n (at from) (at to) w.below w.walk j ends settled (get_or nexts (get_or way j 0) 0) least some way-there (λ i d. rw way-is (get_or-set_other way j i (get_or nexts (get_or way j 0) 0) 0 d));
            counted = w.counted;
            met = w.met;
            over = w.over;
            roots = w.roots;
          },
          omega (arith, top-at n way' j k ends, top-at n way j k ends, way-there, (least.is some).0),
        )
          where
            way-there : get_or way' j 0 ≡ get_or nexts (get_or way j 0) 0
            way-there = rw way-is (get_or-set_same way j (get_or nexts (get_or way j 0) 0) 0 (omega (arith, w.way_long, steps-few)))

        module _ (last : n ≤ get_or nexts (get_or way j 0) 0) (rooted : root < n) {mark' : List ℕ} (mark-is : mark' ≡ set mark (get_or from (get_or way j 0) 0) (n + 1 + done)) where
          mark-last : get_or mark' (get_or from (get_or way j 0) 0) 0 ≡ n + 1 + done
          mark-last =
              rw mark-is (get_or-set_same mark (get_or from (get_or way j 0) 0) (n + 1 + done) 0 (omega (arith, w.mark-long, class-inside j ends)))

          mark-others : (x : ℕ) → (x ≡ get_or from (get_or way j 0) 0 → ⊥) → get_or mark' x 0 ≡ get_or mark x 0
          mark-others x d = rw mark-is (get_or-set_other mark (get_or from (get_or way j 0) 0) x (n + 1 + done) 0 d)

          same_new : new_in mark' ≡ new_in mark
          same_new =
              rw mark-is (omega (arith, new-set mark (get_or from (get_or way j 0) 0) (n + 1 + done) (omega (arith, w.mark-long, class-inside j ends)), is_none (get_or mark (get_or from (get_or way j 0) 0) 0) (λ e. omega (arith, w.walk.marks j (omega arith))), is_none (n + 1 + done) (λ e. omega arith)))

          as_many : new_in mark' * (n + n + 3) ≡ new_in mark * (n + n + 3)
          as_many = rw same_new

          step_less : k * (n + 1) ≡ j * (n + 1) + (n + 1)
          step_less = rw (← ends) (one_more j (n + 1))

          pub went_back : Walking way mark' j (done + 1) root × (remaining n way mark' j root < remaining n way mark k root)
          unfolding remaining
          went_back = (
            record {
              chained = w.chained;
              below = w.below;
              few = w.few;
              to-long = w.to-long;
              way_long = w.way_long;
              mark-long = rw mark-is (length-set mark (get_or from (get_or way j 0) 0) (n + 1 + done)) ∙ w.mark-long;
              walk = left n (at from) (at to) w.below w.walk j ends settled (get_or nexts (get_or way j 0) 0) least last steps-few mark-last mark-others;
              counted = omega (arith, same_new, w.counted);
              met = λ p l. same_or_not (get_or from p 0) (get_or from (get_or way j 0) 0) (λ e. rw (e, mark-last) (omega arith)) (λ d. omega (arith, mark-others (get_or from p 0) d, w.met p l));
              over = λ l. absurd (omega arith);
              roots = w.roots;
            },
            omega (arith, as_many, step_less),
          )

    -- ---- every root was met, and nothing is on the way
    pub walk_ends : n ≤ root → WalkEnded from to way 0 0
    unfolding link_leads
    walk_ends h =
        record {
          long = w.way_long;
          ordered = omega arith;
          inside = omega arith;
          links = λ j l. absurd (omega arith);
          ring = λ l. absurd (omega arith);
          none = λ e ring l. no_loop (link_leads from to) n (λ x. get_or mark (get_or from (x - 1) 0) 0) falling ring l;
        }
      where
        falling : (x y : ℕ) → 0 < x → x ≤ n → 0 < y → y ≤ n → link_leads from to x y ≡ true → get_or mark (get_or from (y - 1) 0) 0 < get_or mark (get_or from (x - 1) 0) 0
        falling x y a b d f e =
            falls-everywhere n (at from) (at to) w.below w.walk (w.over h) (λ p l. w.met p (omega (arith, w.roots))) (x - 1) (y - 1) (omega arith) (omega arith) (sym (eqb-true (get_or to (x - 1) 0) (get_or from (y - 1) 0) e))
