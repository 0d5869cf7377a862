-- What a date's form gives, and the bounds of a day that is one.
-- Assumes nothing.
use Prim.Native.Nat.{ℕ, ◌+◌, ◌*◌, ◌≤◌}
use mathlib.Core.Path.{◌≡◌, ap}
use mathlib.Core.Bool.{true, false, ◌&&◌, ◌||◌}
use mathlib.Core.List.{List}
use native.Mathlib.Omega.{arith}
use borrow.Author.Tests.{eqb-true, ne_eqb, le-leb}
use lib.ListN.{length, get_or}
use lib.Dec.{eqb}
use Rattle.json_bytes.specs.Reads.{within}
use Rattle.json_bytes.proofs.Laws.{by-test, both_left, both_right, within-from, within-to}
use Rattle.std.specs.Prelude.{Some, None}
use Rattle.json_date.specs.declared.Day.{Day}
use Rattle.json_date.specs.Date.{Date, day_in, is_leap, month_days, is_day, all_digits_at, two_at, has_form, year_of, month_of, day_of, date_of}

-- ---- a number between two others
pub lies_within : (lo hi x : ℕ) → lo ≤ x → x ≤ hi → within lo hi x ≡ true
unfolding within
lies_within lo hi x a b = rw (le-leb lo x a, le-leb x hi b)

-- ---- two digits
pub record Digit (c : ℕ) : Type 0 where
  pub from : 48 ≤ c
  pub to : c ≤ 57

digit : (c : ℕ) → within 48 57 c ≡ true → Digit c
digit c e = record { from = within-from 48 57 c e; to = within-to 48 57 c e }

module _ (cs : List ℕ) (i : ℕ) (e : all_digits_at cs i ≡ true) where
  pub first-digit : Digit (get_or cs i 0)
  unfolding all_digits_at
  first-digit = digit (get_or cs i 0) (both_left (within 48 57 (get_or cs i 0)) (within 48 57 (get_or cs (i + 1) 0)) e)

  pub second-digit : Digit (get_or cs (i + 1) 0)
  unfolding all_digits_at
  second-digit = digit (get_or cs (i + 1) 0) (both_right (within 48 57 (get_or cs i 0)) (within 48 57 (get_or cs (i + 1) 0)) e)

-- ---- the form
pub record Form (cs : List ℕ) : Type 0 where
  pub ten : length cs ≡ 10
  pub century : all_digits_at cs 0 ≡ true
  pub year : all_digits_at cs 2 ≡ true
  pub month : all_digits_at cs 5 ≡ true
  pub day : all_digits_at cs 8 ≡ true

pub form : (cs : List ℕ) → has_form cs ≡ true → Form cs
unfolding has_form
form cs e =
    let digits : (all_digits_at cs 0 && (all_digits_at cs 2 && (all_digits_at cs 5 && all_digits_at cs 8))) ≡ true =
    both_right (eqb (get_or cs 7 0) 45) _ (both_right (eqb (get_or cs 4 0) 45) _ (both_right (eqb (length cs) 10) _ e)) in
    let later : (all_digits_at cs 2 && (all_digits_at cs 5 && all_digits_at cs 8)) ≡ true = both_right (all_digits_at cs 0) _ digits in
    let last : (all_digits_at cs 5 && all_digits_at cs 8) ≡ true = both_right (all_digits_at cs 2) _ later in
    record {
      ten = eqb-true (length cs) 10 (both_left (eqb (length cs) 10) _ e);
      century = both_left (all_digits_at cs 0) _ digits;
      year = both_left (all_digits_at cs 2) _ later;
      month = both_left (all_digits_at cs 5) _ last;
      day = both_right (all_digits_at cs 5) _ last;
    }

-- ---- the date, by the form and then by the calendar
module _ (cs : List ℕ) where
  pub no-form : has_form cs ≡ false → date_of cs ≡ None
  unfolding date_of
  no-form f = rw f

  pub not-ten : (length cs ≡ 10 → ⊥) → date_of cs ≡ None
  unfolding date_of has_form
  not-ten n = rw (ne_eqb (length cs) 10 n)

  module _ (century year m d : ℕ) (ec : century ≡ two_at cs 0) (ey : year ≡ two_at cs 2) (em : m ≡ two_at cs 5) (ed : d ≡ two_at cs 8) (f : has_form cs ≡ true) where
    pub is-date : is_day (century * 100 + year) m d ≡ true → date_of cs ≡ Some (day_in (century * 100 + year) m d)
    unfolding date_of year_of month_of day_of
    is-date t = rw (f, ← ec, ← ey, ← em, ← ed, t)

    pub no-day : is_day (century * 100 + year) m d ≡ false → date_of cs ≡ None
    unfolding date_of year_of month_of day_of
    no-day t = rw (f, ← ec, ← ey, ← em, ← ed, t)

-- ---- no month has more than 31 days
month-most : (y m : ℕ) → month_days y m ≤ 31
unfolding month_days
month-most y m =
    by-test (λ (n : ℕ). n ≤ 31) (eqb m 2) _ _
    (λ _. by-test (λ (n : ℕ). n ≤ 31) (is_leap y) 29 28 (λ _. omega arith) (λ _. omega arith))
    (λ _. by-test (λ (n : ℕ). n ≤ 31) (eqb m 4 || (eqb m 6 || (eqb m 9 || eqb m 11))) 30 31 (λ _. omega arith) (λ _. omega arith))

-- ---- and none has fewer than 28: the 28th and the days before it stand in every month
pub month_least : (y m : ℕ) → 28 ≤ month_days y m
unfolding month_days
month_least y m =
    by-test (λ (n : ℕ). 28 ≤ n) (eqb m 2) _ _
    (λ _. by-test (λ (n : ℕ). 28 ≤ n) (is_leap y) 29 28 (λ _. omega arith) (λ _. omega arith))
    (λ _. by-test (λ (n : ℕ). 28 ≤ n) (eqb m 4 || (eqb m 6 || (eqb m 9 || eqb m 11))) 30 31 (λ _. omega arith) (λ _. omega arith))

pub day_early : (y m d : ℕ) → within 1 28 d ≡ true → within 1 (month_days y m) d ≡ true
day_early y m d e =
    lies_within 1 (month_days y m) d (within-from 1 28 d e) (omega (arith, within-to 1 28 d e, month_least y m))

-- ---- a day of a date lies in years 1 to 9999, months 1 to 12 and days 1 to the month's last, 31 at most
pub record Dated (y m d : ℕ) : Type 0 where
  pub year-from : 1 ≤ y
  pub year-to : y ≤ 9999
  pub month-from : 1 ≤ m
  pub month-to : m ≤ 12
  pub day-from : 1 ≤ d
  pub day-last : d ≤ month_days y m
  pub day-to : d ≤ 31

pub day-dated : (y m d : ℕ) → is_day y m d ≡ true → Dated y m d
unfolding is_day
day-dated y m d e =
    let inner : (within 1 12 m && within 1 (month_days y m) d) ≡ true = both_right (within 1 9999 y) _ e in
    let year : within 1 9999 y ≡ true = both_left (within 1 9999 y) _ e in
    let month : within 1 12 m ≡ true = both_left (within 1 12 m) _ inner in
    let day : within 1 (month_days y m) d ≡ true = both_right (within 1 12 m) _ inner in
    record {
      year-from = within-from 1 9999 y year;
      year-to = within-to 1 9999 y year;
      month-from = within-from 1 12 m month;
      month-to = within-to 1 12 m month;
      day-from = within-from 1 (month_days y m) d day;
      day-last = within-to 1 (month_days y m) d day;
      day-to = omega (arith, within-to 1 (month_days y m) d day, month-most y m);
    }

pub date-dated : (cs : List ℕ) (y m d : ℕ) → date_of cs ≡ Some (day_in y m d) → Dated y m d
unfolding date_of
date-dated cs y m d =
    by-test (λ (r : Date). r ≡ Some (day_in y m d) → Dated y m d) (has_form cs && is_day (year_of cs) (month_of cs) (day_of cs)) (Some (day_in (year_of cs) (month_of cs) (day_of cs))) None
    (λ t e. let day : day_in y m d ≡ day_in (year_of cs) (month_of cs) (day_of cs) = cc in
    rw (ap (λ (a : Day). a.year) day, ap (λ (a : Day). a.month) day, ap (λ (a : Day). a.day) day) (day-dated (year_of cs) (month_of cs) (day_of cs) (both_right (has_form cs) _ t)))
    (λ _ e. let z : ◌≡◌ {A = ℕ} 0 1 = cc in absurd (omega arith))
