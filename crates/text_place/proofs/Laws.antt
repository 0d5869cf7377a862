-- What one byte more does to a spot: the three ways of the walk.
-- Assumes nothing.
use Prim.Native.Nat.{ℕ, suc, ◌+◌, ◌<◌, min}
use mathlib.Core.Path.{◌≡◌, refl, sym, ap, ◌∙◌}
use mathlib.Core.Bool.{true, false}
use mathlib.Core.List.{List}
use borrow.Author.Tests.{eq-eqb, ne_eqb, eqb-true, eqb-false, ltb-true, ltb-false}
use lib.Dec.{ltb}
use mathlib.Core.Bool.{cond}
use Rattle.json_bytes.proofs.Laws.{by-test}
use native.Mathlib.Numerals.{add-one}
use native.Mathlib.Omega.{arith}
use lib.ListN.{length, get_or, take}
use Rattle.std.proofs.lemmas.List.{length-take, get_or-take}
use Rattle.json_bytes.specs.Reads.{byte_at}
use Rattle.text_place.specs.Place.{is_continuation, is_character, is_line_feed, count_where, backwards, up_to_feed, spot, spot_behind}

module _ (s : List ℕ) where
  -- the walk stands behind the first n bytes
  pub record Behind (n line column : ℕ) : Type 0 where
    pub line-is : line ≡ (spot_behind s n).line
    pub column-is : column ≡ (spot_behind s n).column

  pub at-start : Behind 0 1 1
  unfolding spot_behind count_where backwards up_to_feed
  at-start = record { line-is = refl; column-is = refl }

  module _ {n line column : ℕ} (at : Behind n line column) where
    pub feed-passed : byte_at s n ≡ 10 → Behind (n + 1) (line + 1) 1
    unfolding spot_behind count_where backwards up_to_feed is_line_feed
    feed-passed e =
        record { line-is = rw (add-one n, add-one line, eq-eqb _ 10 e) (ap suc at.line-is); column-is = rw (add-one n, eq-eqb _ 10 e) }

    module _ (other : byte_at s n ≡ 10 → ⊥) where
      pub rest-passed : is_continuation (byte_at s n) ≡ true → Behind (n + 1) line column
      unfolding spot_behind count_where backwards up_to_feed is_line_feed is_character
      rest-passed e =
          record { line-is = rw (add-one n, ne_eqb _ 10 other) at.line-is; column-is = rw (add-one n, ne_eqb _ 10 other, e) at.column-is }

      pub first-passed : is_continuation (byte_at s n) ≡ false → Behind (n + 1) line (column + 1)
      unfolding spot_behind count_where backwards up_to_feed is_line_feed is_character
      first-passed e =
          record { line-is = rw (add-one n, ne_eqb _ 10 other) at.line-is; column-is = rw (add-one n, add-one column, ne_eqb _ 10 other, e) (ap suc at.column-is) }

  -- what the walk answers
  pub spot_is : {n line column : ℕ} → Behind n line column → spot line column ≡ spot_behind s n
  unfolding spot_behind
  spot_is at = rw (at.line-is, at.column-is)

-- ---- a byte in front of a place is that of the whole
pub in-front : (s : List ℕ) (n i : ℕ) → i < length (take n s) → get_or (take n s) i 0 ≡ byte_at s i
in-front s n i l = get_or-take n s i 0 (omega (arith, length-take n s))

-- one byte more, by what the walk has found of it and the spot that it goes on with
module _ (s : List ℕ) (n i : ℕ) (within : i < length (take n s)) {line column : ℕ} (at : Behind s i line column) where
  pub at-feed : is_line_feed (get_or (take n s) i 0) ≡ true → {l k : ℕ} → l ≡ line + 1 → k ≡ 1 → Behind s (i + 1) l k
  unfolding is_line_feed
  at-feed e p q = rw (p, q) (feed-passed s at (sym (in-front s n i within) ∙ eqb-true _ 10 e))

  module _ (other : is_line_feed (get_or (take n s) i 0) ≡ false) where
    pub at-rest : is_continuation (get_or (take n s) i 0) ≡ true → {l k : ℕ} → l ≡ line → k ≡ column → Behind s (i + 1) l k
    unfolding is_line_feed
    at-rest e p q = rw (p, q) (rest-passed s at (λ x. eqb-false _ 10 other (in-front s n i within ∙ x)) (ap is_continuation (sym (in-front s n i within)) ∙ e))

    pub at-first : is_continuation (get_or (take n s) i 0) ≡ false → {l k : ℕ} → l ≡ line → k ≡ column + 1 → Behind s (i + 1) l k
    unfolding is_line_feed
    at-first e p q = rw (p, q) (first-passed s at (λ x. eqb-false _ 10 other (in-front s n i within ∙ x)) (ap is_continuation (sym (in-front s n i within)) ∙ e))

-- the lesser of two numbers, by a test
pub cut-place : (a b : ℕ) → cond (ltb a b) a b ≡ min a b
cut-place a b = by-test (λ (n : ℕ). n ≡ min a b) (ltb a b) _ _ (λ e. omega (arith, ltb-true a b e)) (λ e. omega (arith, ltb-false a b e))
