-- A record breaks a target rule exactly if its value isn't found in the order of keys, and not where one record is seen to have it.
-- Assumes nothing.
use Rattle.std.proofs.Common.{◌≡◌, ℕ, zero, suc, ◌-◌, ◌*◌, ◌<◌, ◌≤◌, Bool, true, false, cond, not, ◌&&◌, eqb, ltb, leb, List, length, take, drop, sym, refl, ap, ◌∙◌, arith, length-drop, drop_of_length-le, take_all, lt-ltb, ne_eqb}
use Rattle.std.specs.Prelude.{MatchOption}
use Rattle.std.specs.declared.option.Option.{Option}
use Rattle.std.specs.declared.option.Option.TheVariants.{None, Some}
use mathlib.Core.Path.{fun_ext}
use mathlib.Core.Bool.{and-false}
use native.Mathlib.Nat.{sub-zero}
use Rattle.json_chars.specs.Chars.{chars_at}
use Rattle.json_same.specs.Same.{same_as}
use Rattle.json_same.specs.declared.Case.TheVariants.{Folded}
use Rattle.rule_cells.specs.Cells.{Table, table, cell_of, start_of, text_of, is_given, first_from, first_that}
use Rattle.rule_when.specs.When.{holds_when}
use Rattle.rule_when.specs.declared.When.{When}
use Rattle.rule_target.specs.Target.{target_of, breaks_target}
use Rattle.rule_target.proofs.Laws.{target_told, has-target}
use Rattle.rule_key.specs.declared.Key.{Key}
use Rattle.key_order.specs.Order.{sums_of, in_key_order, are_fit, sums_after, order_after}
use Rattle.key_order.proofs.Lists.{fit-sums, fit-order}
use Rattle.key_lookup.specs.declared.Lookup.{Lookup}
use Rattle.key_lookup.specs.Lookup.{key_of, has_texts, is_found}
use Rattle.key_lookup.proofs.Laws.{found-exactly}
use Rattle.ordered_target.specs.Found.{one_text}

pub one-text-has : (u : Table) (m : ℕ) (text : List ℕ) (q : ℕ) → has_texts u (one_text m) text q ≡ same_as Folded text (text_of u q m)
unfolding has_texts
one-text-has u m text q = go (same_as Folded text (text_of u q m))
  where
    go : (b : Bool) → (b && true) ≡ b
    go true = refl
    go false = refl

none_above : (k : ℕ) → not (ltb 0 k) ≡ eqb k 0
none_above zero = refl
none_above (suc k) = rw (lt-ltb 0 (suc k) (omega arith), ne_eqb (suc k) 0 (λ z. omega arith))

-- some target record has the text exactly if it is found
not_found : (s cells : List ℕ) (width n m : ℕ) (text : List ℕ) → not (is_found (table s cells width 0) (one_text m) (sums_of (table s cells width 0) m n) (in_key_order (table s cells width 0) (key_of (one_text m)) n) text) ≡ eqb (target_of text (table s cells width n) m) 0
unfolding target_of
not_found s cells width n m text =
    ap not (found-exactly (table s cells width 0) (one_text m) n text) ∙ none_above (first_that (has_texts (table s cells width 0) (one_text m) text) n)
    ∙ ap (λ (f : ℕ → Bool). eqb (first_that f n) 0) (fun_ext (one-text-has (table s cells width 0) m text))

-- the same of what a lookup in lists that hold this order told
pub looked-up : (s cells : List ℕ) (width n m : ℕ) (text sums order : List ℕ) (x : Bool) → sums ≡ sums_of (table s cells width 0) m n → order ≡ in_key_order (table s cells width 0) (key_of (one_text m)) n → x ≡ is_found (table s cells width 0) (one_text m) sums order text → not x ≡ eqb (target_of text (table s cells width n) m) 0
looked-up s cells width n m text sums order x e f g = rw (g, e, f) (not_found s cells width n m text)

-- what the lent lists hold once they are filled
pub filled : (u : Table) (n m : ℕ) (l : Lookup) (key : Key) (sums order scratch sums' order' : List ℕ) → l ≡ one_text m → key ≡ key_of l → length order ≡ n → are_fit sums order scratch ≡ true → sums' ≡ sums_after u key sums order scratch → order' ≡ order_after u key sums order scratch → (sums' ≡ sums_of u m n) × (order' ≡ in_key_order u (key_of (one_text m)) n)
filled u n m l key sums order scratch sums' order' a b h fit e f =
    (e ∙ fit-sums sums order scratch u key fit ∙ rw (b, a, h), f ∙ fit-order sums order scratch u key fit ∙ rw (b, a, h))

-- ends are read as starts are, from the cells behind the first; of no cells they are 0
module _ (cells : List ℕ) (width r k : ℕ) where
  pub end-behind : (x : ℕ) → x ≡ start_of (take (length cells - 1) (drop 1 cells)) width r k → x ≡ start_of (drop 1 cells) width r k
  end-behind x e = e ∙ ap (λ (l : List ℕ). start_of l width r k) (take_all (length cells - 1) (drop 1 cells) (omega (arith, length-drop 1 cells)))

  pub no_end : length cells ≤ 0 → start_of (drop 1 cells) width r k ≡ 0
  unfolding start_of cell_of
  no_end h = rw (drop_of_length-le cells {i = 1} (omega arith)) (go (leb r 4096 && (leb width 128 && leb (2 * k) 128)))
    where
      go : (b : Bool) → ◌≡◌ {A = ℕ} (cond b 0 0) 0
      go true = refl
      go false = refl

-- a record that is seen to have the text is a target
pub seen : (text u cells : List ℕ) (width n m q start : ℕ) → q < n → start ≡ start_of cells width q m → same_as Folded text (chars_at u start) ≡ true → eqb (target_of text (table u cells width n) m) 0 ≡ false
seen text u cells width n m q start h e f =
    ne_eqb (target_of text (table u cells width n) m) 0 (has-target text (table u cells width n) m q h (target_told text u cells width q m start _ e refl ∙ f))

-- ---- one record of the rule
module _ (t : Table) (k : ℕ) (w : When) (u : Table) (m : ℕ) (places texts : List ℕ) (r : ℕ) where
  pub ungiven-holds : is_given t.cells t.width r k ≡ false → breaks_target t k w u m places texts r ≡ false
  unfolding breaks_target
  ungiven-holds e = rw (breaks_target, e)

  -- its target is not asked for
  pub unasked-holds : holds_when t r w places texts ≡ false → breaks_target t k w u m places texts r ≡ false
  unfolding breaks_target
  unasked-holds e = rw (breaks_target, e, and-false)

  -- the value stands where its cell says
  module _ (at : ℕ) (is : at ≡ start_of t.cells t.width r k) where
    pub target-holds : eqb (target_of (chars_at t.bytes at) u m) 0 ≡ false → breaks_target t k w u m places texts r ≡ false
    unfolding breaks_target text_of
    target-holds e = rw (breaks_target, text_of, ← is, e, and-false, and-false)

    pub asked-breaks : is_given t.cells t.width r k ≡ true → holds_when t r w places texts ≡ true → eqb (target_of (chars_at t.bytes at) u m) 0 ≡ breaks_target t k w u m places texts r
    unfolding breaks_target text_of
    asked-breaks g h = rw (breaks_target, text_of, g, h, ← is)

-- what is known of a search that may find nothing, by what was known of it
pub either : {P A B : Type 0} {Q : ℕ → Type 0} (r : Option ℕ) → MatchOption r P Q → (P → A) → ((x : ℕ) → Q x → B) → MatchOption r A (λ _. B)
either None e f g = f e
either (Some x) e f g = g x e

-- a search from the first record on is the whole
pub from_first : (breaks : ℕ → Bool) (n : ℕ) → first_from breaks (n - 0) 0 ≡ first_that breaks n
unfolding first_that
from_first breaks n = rw sub-zero
