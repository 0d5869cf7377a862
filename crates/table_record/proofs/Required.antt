-- The fields that must hold a value, by their numbers: what they say of a record, and how they are put down.
-- Assumes nothing.
use Prim.Native.Nat.{ℕ, zero, suc, ◌+◌, ◌-◌, ◌*◌, ◌%◌, ◌≤◌, ◌<◌}
use mathlib.Core.Path.{◌≡◌, refl, sym, ap, ◌∙◌}
use mathlib.Core.Bool.{Bool, true, false, cond, ◌||◌}
use mathlib.Core.List.{List, [], ◌∷◌, ◌++◌, map, append_assoc, append-nil}
use native.Mathlib.Nat.{not-suc-le-zero, le_of_suc-le-suc, sub-zero, mod-eq_of_lt}
use native.Mathlib.Numerals.{add-one}
use native.Mathlib.Omega.{arith}
use borrow.Author.Tests.{eq-eqb, ne_eqb}
use lib.ListN.{length, get_or, set, take, drop, length-take, length-set, drop_of_length-le}
use lib.Seq.{drop-cons, drop-drop, drop-set-lt, take_all, take-append-le, take-suc-set}
use lib.Dec.{eqb}
use Rattle.table_rows.specs.Rows.{nullable_at, listed, field_at, fields_from}
use Rattle.table_record.specs.Record.{end_cell, lacks, is_missing}
use Rattle.table_record.specs.Required.{required_from, required_bytes}

-- ---- one number more, or none, in front of others
module _ (f : ℕ) (others : List ℕ) where
  more-below : (m : ℕ) → f < m → ((i : ℕ) → i < length others → get_or others i 0 < m) → (t : Bool) (i : ℕ) → i < length (cond t others (f ∷ others)) → get_or (cond t others (f ∷ others)) i 0 < m
  more-below m l rest true i h = rest i h
  more-below m l rest false zero h = l
  more-below m l rest false (suc i) h = rest i (le_of_suc-le-suc h)

  more-few : (n : ℕ) → length others ≤ n → (t : Bool) → length (cond t others (f ∷ others)) ≤ suc n
  more-few n l true = omega arith
  more-few n l false = omega arith

  more_bytes : f < 256 → map (λ k. k % 256) others ≡ others → (t : Bool) → map (λ k. k % 256) (cond t others (f ∷ others)) ≡ cond t others (f ∷ others)
  more_bytes l e true = e
  more_bytes l e false = rw (mod-eq_of_lt l, e)

-- ---- what holds of them
module _ (rows : List ℕ) where
  required-below : (n f i : ℕ) → i < length (required_from rows n f) → get_or (required_from rows n f) i 0 < f + n
  unfolding required_from
  required-below zero f i h = absurd (not-suc-le-zero h)
  required-below (suc n) f i h =
      more-below f (required_from rows n (suc f)) (f + suc n) (omega arith) (λ j l. omega (arith, required-below n (suc f) j l)) (nullable_at rows f) i h

  pub number-below : (required : List ℕ) (count : ℕ) → required ≡ required_from rows count 0 → (i : ℕ) → i < length required → get_or required i 0 < count
  number-below required count is i l = rw is (omega (arith, required-below count 0 i (rw is at l)))

  required-few : (n f : ℕ) → length (required_from rows n f) ≤ n
  unfolding required_from
  required-few zero f = omega arith
  required-few (suc n) f = more-few f (required_from rows n (suc f)) n (required-few n (suc f)) (nullable_at rows f)

  required-bytes : (n f : ℕ) → f + n ≤ 256 → map (λ k. k % 256) (required_from rows n f) ≡ required_from rows n f
  unfolding required_from
  required-bytes zero f l = refl
  required-bytes (suc n) f l =
      more_bytes f (required_from rows n (suc f)) (omega arith) (required-bytes n (suc f) (omega arith)) (nullable_at rows f)

  -- a list of 64 has room for those of as many fields
  pub required-all : (count : ℕ) (put : List ℕ) → put ≡ required_bytes rows count 64 → count ≤ 64 → put ≡ required_from rows count 0
  unfolding required_bytes
  required-all count put is l =
      is
      ∙ rw (required-bytes count 0 (omega arith)) (take_all 64 (required_from rows count 0) (omega (arith, required-few count 0)))

  required-next : (count k : ℕ) → k < count → (t : Bool) → t ≡ nullable_at rows k → required_from rows (count - k) k ≡ cond t (required_from rows (count - (k + 1)) (k + 1)) (k ∷ required_from rows (count - (k + 1)) (k + 1))
  unfolding required_from
  required-next count k l t is =
      let e : count - k ≡ suc (count - (k + 1)) = omega arith in
      rw (e, add-one k, is)

-- ---- whether one of the fields of these numbers holds no value
unfoldable pub is_one_empty : List ℕ → ℕ → List ℕ → Bool
is_one_empty cells base [] = false
is_one_empty cells base (k ∷ ks) = eqb (end_cell cells base k) 0 || is_one_empty cells base ks

module _ (rows names cells : List ℕ) (base : ℕ) where
  more-missing : (f : ℕ) (others : List ℕ) (m : Bool) → m ≡ is_one_empty cells base others → (t : Bool) → lacks t cells base f || m ≡ is_one_empty cells base (cond t others (f ∷ others))
  unfolding lacks is_one_empty
  more-missing f others m e true = e
  more-missing f others m e false = rw e

  missing-required : (n f : ℕ) → is_missing (fields_from rows names n f) cells base f ≡ is_one_empty cells base (required_from rows n f)
  unfolding is_missing fields_from listed field_at required_from is_one_empty
  missing-required zero f = refl
  missing-required (suc n) f =
      more-missing f (required_from rows n (suc f)) _ (missing-required n (suc f)) (nullable_at rows f)

  pub missing-starts : (required : List ℕ) (count : ℕ) → required ≡ required_from rows count 0 → is_missing (fields_from rows names count 0) cells base 0 ≡ is_one_empty cells base (drop 0 required)
  missing-starts required count is = missing-required count 0 ∙ rw is

module _ (cells : List ℕ) (base : ℕ) (required : List ℕ) (i : ℕ) where
  module _ (l : i < length required) where
    pub missing-found : get_or cells (base + 2 * get_or required i 0 + 1) 0 ≡ 0 → is_one_empty cells base (drop i required) ≡ true
    unfolding is_one_empty end_cell
    missing-found e = rw (drop-cons required i 0 l, eq-eqb (get_or cells (base + 2 * get_or required i 0 + 1) 0) 0 e)

    pub missing-more : (get_or cells (base + 2 * get_or required i 0 + 1) 0 ≡ 0 → ⊥) → is_one_empty cells base (drop i required) ≡ is_one_empty cells base (drop (i + 1) required)
    unfolding is_one_empty end_cell
    missing-more e = rw (drop-cons required i 0 l, ne_eqb (get_or cells (base + 2 * get_or required i 0 + 1) 0) 0 e, add-one i)

  pub missing-none : length required ≤ i → is_one_empty cells base (drop i required) ≡ false
  unfolding is_one_empty
  missing-none l = rw (drop_of_length-le required l)

pub ruleset missing = (number-below, missing-starts, missing-found, missing-more, missing-none)

-- ---- how they are put down: the first n places, with what the fields from k on put behind them, are the whole, and behind
-- them stands what stood there before
pub record Filling (rows : List ℕ) (count room : ℕ) (before required : List ℕ) (n k : ℕ) : Type 0 where
  pub long : length required ≡ room
  pub behind : drop n required ≡ drop n before
  pub inside : n ≤ room
  pub whole : take room (take n required ++ map (λ f. f % 256) (required_from rows (count - k) k)) ≡ required_bytes rows count room

pub filling-starts : (rows : List ℕ) (count : ℕ) (required : List ℕ) → Filling rows count (length required) required required 0 0
unfolding required_bytes
filling-starts rows count required = record { long = refl; behind = refl; inside = omega arith; whole = rw sub-zero }

module _ (rows : List ℕ) (count room : ℕ) (before required : List ℕ) (n k : ℕ) (so : Filling rows count room before required n k) where
  pub filling-ends : count ≤ k → take n required ≡ required_bytes rows count room
  unfolding required_from
  filling-ends l =
      let e : count - k ≡ 0 = omega arith in
      sym (take_all room (take n required) (omega (arith, length-take n required, so.inside)))
      ∙ (rw (e, append-nil) at so.whole)

  module _ (l : k < count) (t : Bool) (is : t ≡ nullable_at rows k) (then : List ℕ) (m : ℕ) where
    pub filling-put : t ≡ false → n < length required → then ≡ set required n (k % 256) → m ≡ n + 1 → Filling rows count room before then m (k + 1)
    filling-put e h is_then is_m =
        rw (is_then, is_m) record {
          long = length-set required n (k % 256) ∙ so.long;
          behind =
              drop-set-lt (n + 1) required n (k % 256) (omega arith)
              ∙ sym (drop-drop 1 n required)
              ∙ ap (drop 1) so.behind
              ∙ drop-drop 1 n before;
          inside = omega (arith, so.long);
          whole =
              rw (add-one n, take-suc-set required n (k % 256) h, append_assoc) (
              rw (required-next rows count k l t is, e) at so.whole
              );
        }

    pub filling-passed : t ≡ true → then ≡ required → m ≡ n → Filling rows count room before then m (k + 1)
    filling-passed e is_then is_m =
        rw (is_then, is_m) record {
          long = so.long;
          behind = so.behind;
          inside = so.inside;
          whole = rw (required-next rows count k l t is, e) at so.whole;
        }

  -- where no room is left, nothing more counts
  pub filling-full : (then : List ℕ) (m : ℕ) → length required ≤ n → then ≡ required → m ≡ n → Filling rows count room before then m (k + 1)
  filling-full then m h is_then is_m =
      let p : room ≤ length (take n required) = omega (arith, length-take n required, so.long) in
      rw (is_then, is_m) record {
        long = so.long;
        behind = so.behind;
        inside = so.inside;
        whole =
            take-append-le room (take n required) _ p ∙ sym (take-append-le room (take n required) _ p) ∙ so.whole;
      }
