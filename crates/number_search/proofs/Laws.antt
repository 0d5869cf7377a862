-- In a list in order halving finds how many numbers that pass the test stand at the front; and one turn of the halving.
-- Assumes nothing.
use Prim.Native.Nat.{ℕ, zero, suc, ◌+◌, ◌-◌, ◌/◌, ◌≤◌, ◌<◌}
use mathlib.Core.Path.{◌≡◌, refl, sym, ◌∙◌}
use mathlib.Core.Bool.{Bool, true, false, true≢false}
use mathlib.Core.List.{List, [], ◌∷◌}
use native.Mathlib.Omega.{arith}
use borrow.Author.Tests.{ltb-true, ltb-false, lt-ltb, le-ltb, leb-true}
use lib.ListN.{length, get_or}
use lib.Dec.{ltb, leb}
use Rattle.json_bytes.specs.Reads.{leading}
use Rattle.json_bytes.proofs.Laws.{leading-bound}
use Rattle.sorted_numbers.specs.Ordered.{in_order}
use Rattle.sorted_numbers.proofs.Laws.{numbers-order, in-order-rises}
use Rattle.number_search.specs.Search.{below, front_of, middle, search_from, searched}

-- ---- what the front is: the numbers in it pass, and the one behind it does not
passes : (f : ℕ → Bool) (l : List ℕ) (i : ℕ) → i < leading f l → f (get_or l i 0) ≡ true
unfolding leading
passes f [] i h = absurd (omega arith)
passes f (y ∷ ys) i h = go (f y) refl i h (passes f ys)
  where
    go : (t : Bool) → f y ≡ t → (i : ℕ) → i < (elim t [ true ↦ suc (leading f ys) | false ↦ 0 ]) → ((j : ℕ) → j < leading f ys → f (get_or ys j 0) ≡ true) → f (get_or (y ∷ ys) i 0) ≡ true
    go true e zero h r = e
    go true e (suc j) h r = r j (omega arith)
    go false e i h r = absurd (omega arith)

stops : (f : ℕ → Bool) (l : List ℕ) → leading f l < length l → f (get_or l (leading f l) 0) ≡ false
unfolding leading
stops f [] h = absurd (omega arith)
stops f (y ∷ ys) h = go (f y) refl h (stops f ys)
  where
    go : (t : Bool) → f y ≡ t → (elim t [ true ↦ suc (leading f ys) | false ↦ 0 ]) < suc (length ys) → (leading f ys < length ys → f (get_or ys (leading f ys) 0) ≡ false) → f (get_or (y ∷ ys) (elim t [ true ↦ suc (leading f ys) | false ↦ 0 ]) 0) ≡ false
    go true e h r = r (omega arith)
    go false e h r = e

-- a list in order, as the test sees it: what stands before a number that passes does too
abbrev pub Falls : (ℕ → Bool) → List ℕ → Type 0
Falls before l = (i j : ℕ) → i < j → j < length l → before (get_or l j 0) ≡ true → before (get_or l i 0) ≡ true

module _ (before : ℕ → Bool) (l : List ℕ) where
  pub front-within : front_of before l ≤ length l
  unfolding front_of
  front-within = leading-bound before l

  pub front-before : (i : ℕ) → i < front_of before l → before (get_or l i 0) ≡ true
  unfolding front_of
  front-before i h = passes before l i h

  pub front_at : front_of before l < length l → before (get_or l (front_of before l) 0) ≡ false
  unfolding front_of
  front_at h = stops before l h

  module _ (o : Falls before l) where
    pub before-there : (i : ℕ) → i < length l → before (get_or l i 0) ≡ true → i < front_of before l
    before-there i g h = go (ltb i (front_of before l)) refl (ltb (front_of before l) i) refl
      where
        go : (t : Bool) → ltb i (front_of before l) ≡ t → (u : Bool) → ltb (front_of before l) i ≡ u → i < front_of before l
        go true e u f = ltb-true i (front_of before l) e
        go false e true f =
            let k : front_of before l < i = ltb-true (front_of before l) i f in
            absurd (true≢false (sym (o (front_of before l) i k g h) ∙ front_at (omega arith)))
        go false e false f =
            let n : front_of before l ≡ i = omega (arith, ltb-false i (front_of before l) e, ltb-false (front_of before l) i f) in
            absurd (true≢false (sym h ∙ (rw n at (front_at (omega arith)))))

    -- and of a list in order no number from there on passes
    pub front-from : (i : ℕ) → front_of before l ≤ i → i < length l → before (get_or l i 0) ≡ false
    front-from i h g = go (before (get_or l i 0)) refl
      where
        go : (t : Bool) → before (get_or l i 0) ≡ t → t ≡ false
        go true e = absurd (omega (arith, before-there i g e))
        go false e = refl

-- ---- one turn
pub half-way : (lo hi : ℕ) → lo < hi → (lo ≤ middle lo hi) × (middle lo hi < hi)
unfolding middle
half-way lo hi h = (omega arith, omega arith)

module _ (f : ℕ) (before : ℕ → Bool) (l : List ℕ) (lo hi : ℕ) where
  pub search-ends : hi ≤ lo → search_from f before l lo hi ≡ lo
  unfolding search_from
  search-ends h = go f
    where
      go : (f : ℕ) → search_from f before l lo hi ≡ lo
      go zero = refl
      go (suc f) = rw (le-ltb lo hi h, search_from)

  pub search-on : lo < hi → before (get_or l (middle lo hi) 0) ≡ true → search_from (suc f) before l lo hi ≡ search_from f before l (middle lo hi + 1) hi
  unfolding search_from
  search-on h g = rw (lt-ltb lo hi h, g, search_from)

  pub search-back : lo < hi → before (get_or l (middle lo hi) 0) ≡ false → search_from (suc f) before l lo hi ≡ search_from f before l lo (middle lo hi)
  unfolding search_from
  search-back h g = rw (lt-ltb lo hi h, g, search_from)

-- ---- halving finds the front
module _ (before : ℕ → Bool) (l : List ℕ) (o : Falls before l) where
  found_in : (f lo hi : ℕ) → hi - lo ≤ f → lo ≤ front_of before l → front_of before l ≤ hi → hi ≤ length l → search_from f before l lo hi ≡ front_of before l
  found_in zero lo hi h a b c = search-ends zero before l lo hi (omega arith) ∙ omega arith
  found_in (suc f) lo hi h a b c = go (ltb lo hi) refl (before (get_or l (middle lo hi) 0)) refl (λ p q r s. found_in f (middle lo hi + 1) hi p q r s) (λ p q r s. found_in f lo (middle lo hi) p q r s)
    where
      go : (t : Bool) → ltb lo hi ≡ t → (u : Bool) → before (get_or l (middle lo hi) 0) ≡ u
          → (hi - (middle lo hi + 1) ≤ f → middle lo hi + 1 ≤ front_of before l → front_of before l ≤ hi → hi ≤ length l → search_from f before l (middle lo hi + 1) hi ≡ front_of before l)
          → (middle lo hi - lo ≤ f → lo ≤ front_of before l → front_of before l ≤ middle lo hi → middle lo hi ≤ length l → search_from f before l lo (middle lo hi) ≡ front_of before l)
          → search_from (suc f) before l lo hi ≡ front_of before l
      go false e u d on back = search-ends (suc f) before l lo hi (ltb-false lo hi e) ∙ omega (arith, ltb-false lo hi e)
      go true e true d on back =
          let w : (lo ≤ middle lo hi) × (middle lo hi < hi) = half-way lo hi (ltb-true lo hi e) in
          search-on f before l lo hi (ltb-true lo hi e) d ∙ on (omega arith) (omega (arith, before-there before l o (middle lo hi) (omega arith) d)) b c
      go true e false d on back =
          let w : (lo ≤ middle lo hi) × (middle lo hi < hi) = half-way lo hi (ltb-true lo hi e) in
          search-back f before l lo hi (ltb-true lo hi e) d ∙ back (omega arith) a (upto (ltb (middle lo hi) (front_of before l)) refl) (omega arith)
        where
          upto : (t : Bool) → ltb (middle lo hi) (front_of before l) ≡ t → front_of before l ≤ middle lo hi
          upto true k = absurd (true≢false (sym (front-before before l (middle lo hi) (ltb-true (middle lo hi) (front_of before l) k)) ∙ d))
          upto false k = ltb-false (middle lo hi) (front_of before l) k

  pub search-ordered : searched before l ≡ front_of before l
  unfolding searched
  search-ordered = found_in (length l) 0 (length l) (omega arith) (omega arith) (front-within before l) (omega arith)

-- ---- numbers in order, for those below x
pub numbers-fall : (x : ℕ) (l : List ℕ) → in_order leb l ≡ true → Falls (below x) l
numbers-fall x l o i j g h e =
    lt-ltb (get_or l i 0) x (omega (arith, ltb-true (get_or l j 0) x e, leb-true (get_or l i 0) (get_or l j 0) (in-order-rises leb numbers-order l i j o g h)))

-- ---- the loop: enough turns are left, and they end where the whole does
pub record Searching (before : ℕ → Bool) (l : List ℕ) (lo hi : ℕ) : Type 0 where
  pub turns : ℕ
  pub enough : hi - lo ≤ turns
  pub inside : hi ≤ length l
  pub rest : searched before l ≡ search_from turns before l lo hi

pub starts : (before : ℕ → Bool) (l : List ℕ) → Searching before l 0 (length l)
unfolding searched
starts before l = record { turns = length l; enough = omega arith; inside = omega arith; rest = refl }

module _ (before : ℕ → Bool) (l : List ℕ) (lo hi : ℕ) (w : Searching before l lo hi) where
  pub ends : hi ≤ lo → lo ≡ searched before l
  ends h = sym (w.rest ∙ search-ends w.turns before l lo hi h)

  module _ (h : lo < hi) (m : ℕ) (is : m ≡ lo + (hi - lo) / 2) where
    here : m ≡ middle lo hi
    unfolding middle
    here = is

    on-by : (f : ℕ) → hi - lo ≤ f → searched before l ≡ search_from f before l lo hi → before (get_or l m 0) ≡ true → Searching before l (m + 1) hi
    on-by zero e r g = absurd (omega arith)
    on-by (suc f) e r g = record {
      turns = f;
      enough = omega (arith, half-way lo hi h, here);
      inside = w.inside;
      rest = r ∙ search-on f before l lo hi h (rw here at g) ∙ rw here;
    }

    back_by : (f : ℕ) → hi - lo ≤ f → searched before l ≡ search_from f before l lo hi → before (get_or l m 0) ≡ false → Searching before l lo m
    back_by zero e r g = absurd (omega arith)
    back_by (suc f) e r g = record {
      turns = f;
      enough = omega (arith, half-way lo hi h, here);
      inside = omega (arith, half-way lo hi h, here, w.inside);
      rest = r ∙ search-back f before l lo hi h (rw here at g) ∙ rw here;
    }

    pub goes_on : before (get_or l m 0) ≡ true → Searching before l (m + 1) hi
    goes_on = on-by w.turns w.enough w.rest

    pub goes_back : before (get_or l m 0) ≡ false → Searching before l lo m
    goes_back = back_by w.turns w.enough w.rest
