-- A walk into the depth along links: what is known on its way, and how each turn keeps it.
-- Assumes nothing.
use Prim.Native.Nat.{ℕ, ◌+◌, ◌-◌, ◌≤◌, ◌<◌}
use mathlib.Core.Path.{◌≡◌, refl, sym, ap, ◌∙◌}
use mathlib.Core.Bool.{Bool, true, false}
use native.Mathlib.Omega.{arith}
use borrow.Author.Count.{below_more}
use borrow.Author.Tests.{eqb-true, eqb-false, ltb-true, ltb-false}
use lib.Dec.{ltb, eqb}
use Rattle.link_loops.specs.Walk.{Least, RingAt}

-- two numbers are the same or not
pub same_or_not : {A : Type 0} (x y : ℕ) → (x ≡ y → A) → ((x ≡ y → ⊥) → A) → A
same_or_not {A} x y f g = go (eqb x y) refl
  where
    go : (t : Bool) → eqb x y ≡ t → A
    go true e = f (eqb-true x y e)
    go false e = g (eqb-false x y e)

pub less-or-not : {A : Type 0} (x y : ℕ) → (x < y → A) → (y ≤ x → A) → A
less-or-not {A} x y f g = go (ltb x y) refl
  where
    go : (t : Bool) → ltb x y ≡ t → A
    go true e = f (ltb-true x y e)
    go false e = g (ltb-false x y e)

pub above : (x y : ℕ) → x ≤ y → (y ≡ x → ⊥) → x + 1 ≤ y
above x y l d = less-or-not x y (λ m. omega arith) (λ m. absurd (d (omega arith)))

module _ (n : ℕ) (from to : ℕ → ℕ) where
  -- every class behind link p is through
  pub record Settled (mark : ℕ → ℕ) (p : ℕ) : Type 0 where
    pub through : (q : ℕ) → q < n → from q ≡ to p → n < mark (from q)

  -- k links on the way, and so many classes through
  pub record Walk (way mark : ℕ → ℕ) (k done : ℕ) : Type 0 where
    pub links : (j : ℕ) → j < k → way j < n
    pub marks : (j : ℕ) → j < k → mark (from (way j)) ≡ j + 1
    pub joins : (j : ℕ) → j + 1 < k → to (way j) ≡ from (way (j + 1))
    pub tried : (j p : ℕ) → j < k → p < way j → from p ≡ from (way j) → Settled mark p
    pub back : (c : ℕ) → c < n → 0 < mark c → mark c ≤ n → (mark c ≤ k) × (from (way (mark c - 1)) ≡ c)
    pub falls : (p q : ℕ) → p < n → q < n → n < mark (from p) → from q ≡ to p → (n < mark (from q)) × (mark (from q) < mark (from p))
    pub highest : (c : ℕ) → c < n → mark c ≤ n + done

  pub starts : (way mark : ℕ → ℕ) → ((c : ℕ) → c < n → mark c ≡ 0) → ((p : ℕ) → p < n → from p < n) → Walk way mark 0 0
  starts way mark zeros below =
      record {
        links = λ j h. absurd (omega arith);
        marks = λ j h. absurd (omega arith);
        joins = λ j h. absurd (omega arith);
        tried = λ j p h. absurd (omega arith);
        back = λ c h l m. absurd (omega (arith, zeros c h));
        falls = λ p q h l m e. absurd (omega (arith, zeros (from p) (below p h)));
        highest = λ c h. omega (arith, zeros c h);
      }

  module _ (below : (p : ℕ) → p < n → from p < n) {way mark : ℕ → ℕ} {k done : ℕ} (w : Walk way mark k done) where
    -- ---- a new class is entered, by its first link h
    module _ (c h : ℕ) (inside : c < n) (new : mark c ≡ 0) (short : k < n) (least : Least n from 0 c h) (some : h < n)
        (led : (j : ℕ) → j + 1 ≡ k → to (way j) ≡ c) {way' mark' : ℕ → ℕ}
        (way-there : way' k ≡ h) (way-else : (j : ℕ) → (j ≡ k → ⊥) → way' j ≡ way j)
        (mark-there : mark' c ≡ k + 1) (mark-else : (x : ℕ) → (x ≡ c → ⊥) → mark' x ≡ mark x) where
      -- a class that was met before keeps its mark
      keeps : (x : ℕ) → 0 < mark x → mark' x ≡ mark x
      keeps x h = mark-else x (λ e. omega (arith, ap mark e))

      way-before : (j : ℕ) → j < k → way' j ≡ way j
      way-before j h = way-else j (λ e. omega arith)

      class-there : from (way' k) ≡ c
      class-there = rw way-there (least.is some).1

      settles : (p : ℕ) → Settled mark p → Settled mark' p
      settles p s =
          record { through = λ q h e. let z = s.through q h e in omega (arith, keeps (from q) (omega arith)) }

      was-through : (p : ℕ) → p < n → n < mark' (from p) → n < mark (from p)
      was-through p h l =
          same_or_not (from p) c (λ e. absurd (omega (arith, ap mark' e))) (λ d. omega (arith, mark-else (from p) d))

      pub entered : Walk way' mark' (k + 1) done
      entered =
          record {
            links = below_more (λ j. way' j < n) k (λ j h. omega (arith, way-before j h, w.links j h)) (omega arith);
            marks =
                below_more (λ j. mark' (from (way' j)) ≡ j + 1) k
                (λ j h. rw (way-before j h) (keeps (from (way j)) (omega (arith, w.marks j h)) ∙ w.marks j h))
                (rw class-there mark-there);
            joins =
                λ j h. rw (way-before j (omega arith)) (below_more (λ i. (x : ℕ) → x + 1 ≡ i → to (way x) ≡ from (way' i)) k (λ i l x e. rw (way-before i l, ← e) (w.joins x (omega arith))) (λ x e. rw class-there (led x e)) (j + 1) h j refl);
            tried =
                λ j p h. below_more (λ i. p < way' i → from p ≡ from (way' i) → Settled mark' p) k
                (λ i l a e. settles p (w.tried i p l (rw (way-before i l) at a) (rw (way-before i l) at e)))
                (λ a e. absurd (omega (arith, way-there, least.first p (omega arith) (omega arith) (e ∙ class-there)))) j h;
            back = back-there;
            falls = λ p q h l m e. let f = w.falls p q h l (was-through p h m) e in (omega (arith, keeps (from q) (omega arith)), omega (arith, keeps (from q) (omega arith), keeps (from p) (omega arith)));
            highest = λ x h. same_or_not x c (λ e. omega (arith, ap mark' e)) (λ d. omega (arith, mark-else x d, w.highest x h));
          }
        where
          back-there : (x : ℕ) → x < n → 0 < mark' x → mark' x ≤ n → (mark' x ≤ k + 1) × (from (way' (mark' x - 1)) ≡ x)
          back-there x h l m = same_or_not x c here there
            where
              here : x ≡ c → (mark' x ≤ k + 1) × (from (way' (mark' x - 1)) ≡ x)
              here e =
                  let z : mark' x ≡ k + 1 = ap mark' e ∙ mark-there in
                  let y : mark' x - 1 ≡ k = omega arith in
                  (omega arith, rw (y, class-there) (sym e))

              there : (x ≡ c → ⊥) → (mark' x ≤ k + 1) × (from (way' (mark' x - 1)) ≡ x)
              there d =
                  let z : mark' x ≡ mark x = mark-else x d in
                  let b = w.back x h (omega arith) (omega arith) in
                  (omega arith, rw (z, way-before (mark x - 1) (omega arith)) b.1)

    -- ---- the link q at the way's end is settled
    module _ (j : ℕ) (ends : j + 1 ≡ k) (settled : Settled mark (way j)) where
      -- the next one x of its class takes its place
      module _ (x : ℕ) (least : Least n from (way j + 1) (from (way j)) x) (some : x < n) {way' : ℕ → ℕ} (way-there : way' j ≡ x) (way-else : (i : ℕ) → (i ≡ j → ⊥) → way' i ≡ way i) where
        same_class : from x ≡ from (way j)
        same_class = (least.is some).1

        -- every place of the way has a link of the same class as before
        same-classes : (i : ℕ) → from (way' i) ≡ from (way i)
        same-classes i = same_or_not i j (λ e. rw (e, way-there) same_class) (λ d. rw (way-else i d))

        pub advanced : Walk way' mark k done
        advanced =
            record {
              links = λ i h. same_or_not i j (λ e. rw (e, way-there) some) (λ d. rw (way-else i d) (w.links i h));
              marks = λ i h. rw (same-classes i) (w.marks i h);
              joins = λ i h. rw (same-classes (i + 1), way-else i (λ e. omega arith)) (w.joins i h);
              tried = tries;
              back = λ c h l m. let b = w.back c h l m in (b.0, same-classes (mark c - 1) ∙ b.1);
              falls = w.falls;
              highest = w.highest;
            }
          where
            tries : (i p : ℕ) → i < k → p < way' i → from p ≡ from (way' i) → Settled mark p
            tries i p h l e = same_or_not i j here there
              where
                there : (i ≡ j → ⊥) → Settled mark p
                there d = w.tried i p h (rw (way-else i d) at l) (e ∙ same-classes i)

                here : i ≡ j → Settled mark p
                here z =
                    let f : from p ≡ from (way j) = e ∙ same-classes i ∙ ap (λ y. from (way y)) z in
                    let v : way' i ≡ x = ap way' z ∙ way-there in
                    let below-x : p < x = omega arith in
                    less-or-not p (way j) (λ y. w.tried j p (omega arith) y f)
                    (λ y. same_or_not p (way j) (λ u. rw u settled) (λ d. absurd (omega (arith, least.first p (above (way j) p y d) (omega arith) f))))

      -- there is none: its class is left
      module _ (x : ℕ) (least : Least n from (way j + 1) (from (way j)) x) (last : n ≤ x) (short : k ≤ n) {mark' : ℕ → ℕ}
          (mark-there : mark' (from (way j)) ≡ n + 1 + done) (mark-else : (c : ℕ) → (c ≡ from (way j) → ⊥) → mark' c ≡ mark c) where
        marked : mark (from (way j)) ≡ k
        marked = w.marks j (omega arith) ∙ ends

        -- every other class keeps its mark
        stays : (x : ℕ) → (mark x ≡ k → ⊥) → mark' x ≡ mark x
        stays x d = mark-else x (λ e. d (ap mark e ∙ marked))

        stays-through : (x : ℕ) → n < mark x → mark' x ≡ mark x
        stays-through x l = stays x (λ e. omega arith)

        settles-too : (p : ℕ) → Settled mark p → Settled mark' p
        settles-too p s =
            record { through = λ q h e. let z = s.through q h e in omega (arith, stays-through (from q) z) }

        -- every link of the class is settled
        all_settled : (p : ℕ) → p < n → from p ≡ from (way j) → Settled mark p
        all_settled p h e =
            less-or-not p (way j) (λ l. w.tried j p (omega arith) l e)
            (λ l. same_or_not p (way j) (λ z. rw z settled) (λ d. absurd (omega (arith, least.first p (above (way j) p l d) h e))))

        pub left : Walk way mark' j (done + 1)
        left =
            record {
              links = λ i h. w.links i (omega arith);
              marks = λ i h. stays (from (way i)) (λ e. omega (arith, w.marks i (omega arith))) ∙ w.marks i (omega arith);
              joins = λ i h. w.joins i (omega arith);
              tried = λ i p h l e. settles-too p (w.tried i p (omega arith) l e);
              back = backs;
              falls = fall;
              highest = λ x h. same_or_not x (from (way j)) (λ e. omega (arith, ap mark' e)) (λ d. omega (arith, mark-else x d, w.highest x h));
            }
          where
            backs : (x : ℕ) → x < n → 0 < mark' x → mark' x ≤ n → (mark' x ≤ j) × (from (way (mark' x - 1)) ≡ x)
            backs x h l m = same_or_not x (from (way j)) (λ e. absurd (omega (arith, ap mark' e))) other
              where
                other : (x ≡ from (way j) → ⊥) → (mark' x ≤ j) × (from (way (mark' x - 1)) ≡ x)
                other d =
                    let z : mark' x ≡ mark x = mark-else x d in
                    let b = w.back x h (omega arith) (omega arith) in
                    (same_or_not (mark x) k (λ e. absurd (d (last_one e b.1))) (λ u. less-or-not (mark x) k (λ y. omega arith) (λ y. absurd (u (omega arith)))), rw z b.1)
                  where
                    last_one : mark x ≡ k → from (way (mark x - 1)) ≡ x → x ≡ from (way j)
                    last_one e f = let y : mark x - 1 ≡ j = omega arith in sym f ∙ rw y

            fall : (p q : ℕ) → p < n → q < n → n < mark' (from p) → from q ≡ to p → (n < mark' (from q)) × (mark' (from q) < mark' (from p))
            fall p q h l m e = same_or_not (from p) (from (way j)) here other
              where
                here : from p ≡ from (way j) → (n < mark' (from q)) × (mark' (from q) < mark' (from p))
                here z =
                    let t = (all_settled p h z).through q l e in
                    (omega (arith, stays-through (from q) t), omega (arith, stays-through (from q) t, ap mark' z, w.highest (from q) (below q l)))

                other : (from p ≡ from (way j) → ⊥) → (n < mark' (from q)) × (mark' (from q) < mark' (from p))
                other d =
                    let u : mark' (from p) ≡ mark (from p) = mark-else (from p) d in
                    let f = w.falls p q h l (omega arith) e in
                    (omega (arith, stays-through (from q) f.0), omega (arith, stays-through (from q) f.0))

    -- ---- the class c that link j, the way's end, leads to is on the way
    pub ring-found : (j c : ℕ) → j + 1 ≡ k → to (way j) ≡ c → c < n → 0 < mark c → mark c ≤ n → k ≤ n → RingAt n from to way (mark c - 1) k
    ring-found j c ends e inside l m short =
        let b = w.back c inside l m in
        record {
          some = omega (arith, b.0);
          inside = short;
          records = w.links;
          once = λ i h g v e. omega (arith, w.marks i g, w.marks h v, ap (λ x. mark (from x)) e);
          next = w.joins;
          round = λ i z. let y : i ≡ j = omega arith in rw y (e ∙ sym b.1);
        }

    -- ---- every class is through
    pub falls-everywhere : k ≡ 0 → ((p : ℕ) → p < n → 0 < mark (from p)) → (p q : ℕ) → p < n → q < n → from q ≡ to p → mark (from q) < mark (from p)
    falls-everywhere z met p q h l e = (w.falls p q h l (less-or-not n (mark (from p)) (λ x. x) (λ x. absurd (omega (arith, met p h, (w.back (from p) (below p h) (met p h) x).0)))) e).1
