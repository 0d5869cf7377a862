-- The lesser of records, what a record repeats, and one turn of the walk along a list.
-- Assumes nothing.
use Prim.Native.Nat.{ℕ, zero, suc, ◌+◌, ◌≤◌, ◌<◌}
use mathlib.Core.Path.{◌≡◌, refl, sym, ap, ◌∙◌}
use mathlib.Core.Bool.{Bool, true, false, cond}
use mathlib.Core.List.{List, [], ◌∷◌}
use native.Mathlib.Numerals.{add-one}
use native.Mathlib.Omega.{arith}
use borrow.Author.Tests.{lt-ltb, le-ltb, eq-eqb, ne_eqb, ltb-true, ltb-false}
use lib.ListN.{length, drop, get_or, drop_of_length-le}
use lib.Seq.{drop-cons}
use lib.Dec.{ltb}
use Rattle.rule_cells.specs.Cells.{Table}
use Rattle.rule_key.specs.declared.Key.{Key}
use Rattle.rule_key.specs.Key.{same_key}
use Rattle.ordered_key.specs.Repeat.{same_sum_and_key, lesser, repeat_of, least_repeat}

-- ---- the lesser of two
pub none-lesser : (a b : ℕ) → a ≡ 0 → b ≡ lesser a b
unfolding lesser
none-lesser a b e = rw e

pub lesser-none : (a : ℕ) → lesser a 0 ≡ a
unfolding lesser
lesser-none zero = refl
lesser-none (suc a) = refl

pub none-behind : (a b : ℕ) → b ≡ 0 → a ≡ lesser a b
none-behind a b e = rw e (sym (lesser-none a))

pub lesser-left : (a b : ℕ) → 0 < a → a < b → lesser a b ≡ a
unfolding lesser
lesser-left zero b h g = absurd (omega arith)
lesser-left (suc a) zero h g = absurd (omega arith)
lesser-left (suc a) (suc b) h g = rw (lt-ltb a b (omega arith))

pub lesser-right : (a b : ℕ) → 0 < b → b ≤ a → lesser a b ≡ b
unfolding lesser
lesser-right zero b h g = refl
lesser-right (suc a) zero h g = absurd (omega arith)
lesser-right (suc a) (suc b) h g = rw (le-ltb a b (omega arith))

-- the least of three, whichever two are taken first
pub lesser-assoc : (a b c : ℕ) → lesser a (lesser b c) ≡ lesser (lesser a b) c
unfolding lesser
lesser-assoc zero b c = refl
lesser-assoc (suc a) zero c = refl
lesser-assoc (suc a) (suc b) zero = sym (lesser-none (cond (ltb a b) (suc a) (suc b)))
lesser-assoc (suc a) (suc b) (suc c) = go (ltb a b) refl (ltb b c) refl (ltb a c) refl
  where
    go : (t : Bool) → ltb a b ≡ t → (u : Bool) → ltb b c ≡ u → (v : Bool) → ltb a c ≡ v → lesser (suc a) (cond u (suc b) (suc c)) ≡ lesser (cond t (suc a) (suc b)) (suc c)
    go true p true q true w = rw (p, w)
    go true p true q false w = absurd (omega (arith, ltb-true a b p, ltb-true b c q, ltb-false a c w))
    go true p false q v w = refl
    go false p true q v w = rw (p, q)
    go false p false q true w = absurd (omega (arith, ltb-false a b p, ltb-false b c q, ltb-true a c w))
    go false p false q false w = rw (q, w)

-- ---- the walk: what is left of the list at place i
module _ (same : ℕ → ℕ → Bool) (l : List ℕ) (least i : ℕ) where
  -- the least so far and that of what is left are the least of all
  abbrev pub Walked : Type 0
  Walked = least_repeat same l ≡ lesser least (least_repeat same (drop i l))

module _ (same : ℕ → ℕ → Bool) (l : List ℕ) where
  pub walk-starts : Walked same l 0 0
  unfolding lesser
  walk-starts = refl

  on-by : (least found next p r : ℕ) (rest : List ℕ) → found ≡ repeat_of same p r → next ≡ lesser least found → lesser least (least_repeat same (p ∷ r ∷ rest)) ≡ lesser next (least_repeat same (r ∷ rest))
  unfolding least_repeat
  on-by least found next p r rest e f = rw (← e) (lesser-assoc least found (least_repeat same (r ∷ rest)) ∙ rw (← f))

  goes-on : (least found next i : ℕ) → Walked same l least i → i + 1 < length l → found ≡ repeat_of same (get_or l i 0) (get_or l (i + 1) 0) → next ≡ lesser least found → Walked same l next (i + 1)
  goes-on least found next i w h e f =
      let one : drop (i + 1) l ≡ get_or l (i + 1) 0 ∷ drop (suc (i + 1)) l = drop-cons l (i + 1) 0 h in
      let two : drop i l ≡ get_or l i 0 ∷ drop (i + 1) l = drop-cons l i 0 (omega arith) ∙ rw (← add-one i) in
      w ∙ ap (λ (x : List ℕ). lesser least (least_repeat same x)) (two ∙ ap (λ (x : List ℕ). get_or l i 0 ∷ x) one)
      ∙ on-by least found next (get_or l i 0) (get_or l (i + 1) 0) (drop (suc (i + 1)) l) e f
      ∙ ap (λ (x : List ℕ). lesser next (least_repeat same x)) (sym one)

  pub walk-goes-on : (least found next i j : ℕ) → j ≡ i + 1 → Walked same l least i → j < length l → found ≡ repeat_of same (get_or l i 0) (get_or l j 0) → next ≡ lesser least found → Walked same l next j
  walk-goes-on least found next i j is w h e f = rw is (goes-on least found next i w (rw is at h) (rw is at e) f)

  none_left : (i : ℕ) → length l ≤ i + 1 → least_repeat same (drop i l) ≡ 0
  unfolding least_repeat
  none_left i h = go (ltb i (length l)) refl
    where
      go : (t : Bool) → ltb i (length l) ≡ t → least_repeat same (drop i l) ≡ 0
      go true e = rw (drop-cons l i 0 (ltb-true i (length l) e), drop_of_length-le l {i = suc i} (omega arith))
      go false e = rw (drop_of_length-le l (ltb-false i (length l) e))

  pub walk_ends : (least i : ℕ) → Walked same l least i → length l ≤ i + 1 → least ≡ least_repeat same l
  walk_ends least i w h = sym (w ∙ rw (none_left i h) (lesser-none least))
