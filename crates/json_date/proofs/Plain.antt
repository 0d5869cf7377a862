-- Ten bytes that have the form of a date stand for themselves: the string of them has these characters.
-- Assumes nothing.
use Prim.Native.Nat.{ℕ, zero, suc, ◌+◌, ◌*◌, ◌-◌, ◌≤◌, ◌<◌}
use mathlib.Core.Path.{◌≡◌, refl, sym, ap, ◌∙◌}
use mathlib.Core.Bool.{Bool, true, false, ◌&&◌, false≢true}
use mathlib.Core.List.{List, [], ◌∷◌}
use mathlib.Core.Logic.{◌⊎◌, inl, inr, ⊎_elim}
use native.Mathlib.Nat.{add-zero}
use native.Mathlib.Omega.{arith}
use borrow.Author.Tests.{eqb-true, eq-eqb, ne_eqb}
use lib.ListN.{length, get_or, take, drop}
use lib.Seq.{drop-cons}
use lib.Dec.{eqb, lit<}
use Rattle.json_bytes.specs.Reads.{byte_at, within}
use Rattle.json_bytes.proofs.Laws.{inside, both_left, both_right, within-from, within-to}
use Rattle.json_chars.specs.Step.{step_at}
use Rattle.json_chars.specs.Chars.{chars_at}
use Rattle.json_chars.specs.declared.Step.TheVariants.{Char}
use Rattle.json_chars.proofs.Walk.{own-step}
use Rattle.json_chars.proofs.Plain.{Own, chars-plain}
use Rattle.std.specs.Prelude.{None}
use Rattle.json_date.specs.Date.{Date, is_day, all_digits_at, two_at, has_form, year_of, month_of, day_of, date_of}
use Rattle.json_date.specs.Plain.{is_told, is_plain_date, is_two_of, is_early_day}
use Rattle.json_date.proofs.Laws.{Digit, first-digit, second-digit, form, no-form, lies_within, day_early}

-- ---- the bytes from a place on, one by one
up_to : ℕ → List ℕ → ℕ → ℕ → List ℕ
up_to zero s i k = []
up_to (suc n) s i k = byte_at s (i + k) ∷ up_to n s i (suc k)

bytes-from : (s : List ℕ) (n i k : ℕ) → i + k + n ≤ length s → take n (drop (i + k) s) ≡ up_to n s i k
unfolding up_to
bytes-from s zero i k l = refl
bytes-from s (suc n) i k l =
    let next : suc (i + k) ≡ i + suc k = omega arith in
    rw (drop-cons s (i + k) 0 (omega arith), next) (ap (λ bs. byte_at s (i + k) ∷ bs) (bytes-from s n i (suc k) (omega arith)))

pub ten-bytes : (s : List ℕ) (i : ℕ) → i + 10 ≤ length s → take 10 (drop i s) ≡ byte_at s i ∷ byte_at s (i + 1) ∷ byte_at s (i + 2) ∷ byte_at s (i + 3) ∷ byte_at s (i + 4) ∷ byte_at s (i + 5) ∷ byte_at s (i + 6) ∷ byte_at s (i + 7) ∷ byte_at s (i + 8) ∷ byte_at s (i + 9) ∷ []
unfolding up_to
ten-bytes s i l = rw (add-zero i) at (bytes-from s 10 i 0 (omega arith))

byte_of : (s : List ℕ) (n i m : ℕ) → i + n ≤ length s → m < n → get_or (take n (drop i s)) m 0 ≡ byte_at s (i + m)
byte_of s zero i m l h = absurd (omega arith)
byte_of s (suc n) i zero l h = rw (drop-cons s i 0 (omega arith)) (ap (byte_at s) (omega arith))
byte_of s (suc n) i (suc m) l h =
    rw (drop-cons s i 0 (omega arith)) (byte_of s n (suc i) m (omega arith) (omega arith) ∙ ap (byte_at s) (omega arith))

-- ---- each of ten that have the form is a digit or a dash
pub record Graphic (c : ℕ) : Type 0 where
  pub from : 45 ≤ c
  pub to : c ≤ 57

of-digit : (c : ℕ) → Digit c → Graphic c
of-digit c d = record { from = omega (arith, d.from); to = d.to }

of-dash : (c : ℕ) → c ≡ 45 → Graphic c
of-dash c e = record { from = omega arith; to = omega arith }

module _ (cs : List ℕ) (e : has_form cs ≡ true) where
  dash-4 : get_or cs 4 0 ≡ 45
  unfolding has_form
  dash-4 = eqb-true (get_or cs 4 0) 45 (both_left (eqb (get_or cs 4 0) 45) _ (both_right (eqb (length cs) 10) _ e))

  dash-7 : get_or cs 7 0 ≡ 45
  unfolding has_form
  dash-7 = eqb-true (get_or cs 7 0) 45 (both_left (eqb (get_or cs 7 0) 45) _ (both_right (eqb (get_or cs 4 0) 45) _ (both_right (eqb (length cs) 10) _ e)))

  graphic : (m : ℕ) → m < 10 → Graphic (get_or cs m 0)
  graphic zero l = of-digit _ (first-digit cs 0 (form cs e).century)
  graphic (suc zero) l = of-digit _ (second-digit cs 0 (form cs e).century)
  graphic (suc (suc zero)) l = of-digit _ (first-digit cs 2 (form cs e).year)
  graphic (suc (suc (suc zero))) l = of-digit _ (second-digit cs 2 (form cs e).year)
  graphic (suc (suc (suc (suc zero)))) l = of-dash _ dash-4
  graphic (suc (suc (suc (suc (suc zero))))) l = of-digit _ (first-digit cs 5 (form cs e).month)
  graphic (suc (suc (suc (suc (suc (suc zero)))))) l = of-digit _ (second-digit cs 5 (form cs e).month)
  graphic (suc (suc (suc (suc (suc (suc (suc zero))))))) l = of-dash _ dash-7
  graphic (suc (suc (suc (suc (suc (suc (suc (suc zero)))))))) l = of-digit _ (first-digit cs 8 (form cs e).day)
  graphic (suc (suc (suc (suc (suc (suc (suc (suc (suc zero))))))))) l = of-digit _ (second-digit cs 8 (form cs e).day)
  graphic (suc (suc (suc (suc (suc (suc (suc (suc (suc (suc m)))))))))) l = absurd (omega arith)

graphic-step : (s : List ℕ) (k : ℕ) → Graphic (byte_at s k) → step_at s k ≡ Char (byte_at s k) (k + 1)
graphic-step s k g =
    own-step s k (omega (arith, g.from)) (omega (arith, g.to)) (ne_eqb (byte_at s k) 34 (λ q. omega (arith, g.from))) (ne_eqb (byte_at s k) 92 (λ q. omega (arith, g.to)))

module _ (s : List ℕ) (at : ℕ) (l : at + 11 < length s) (ten : List ℕ) (is_ten : ten ≡ take 10 (drop (at + 1) s)) where
  form-byte : has_form ten ≡ true → (k : ℕ) → at + 1 ≤ k → k < at + 11 → Graphic (byte_at s k)
  form-byte e k a b =
      let place : (at + 1) + (k - (at + 1)) ≡ k = omega arith in
      rw (ap (λ (cs : List ℕ). get_or cs (k - (at + 1)) 0) is_ten ∙ byte_of s 10 (at + 1) (k - (at + 1)) (omega arith) (omega arith) ∙ ap (byte_at s) place) at (graphic ten e (k - (at + 1)) (omega arith))

  -- ---- the date of ten bytes between two quotes: none, or that of the string
  pub plain-or-none : byte_at s at ≡ 34 → byte_at s (at + 11) ≡ 34 → (r : Date) → r ≡ date_of ten → (r ≡ None) ⊎ (r ≡ date_of (chars_at s at))
  plain-or-none quote close r is_date = go (has_form ten) refl
    where
      go : (t : Bool) → has_form ten ≡ t → (r ≡ None) ⊎ (r ≡ date_of (chars_at s at))
      go false e = inl (is_date ∙ no-form ten e)
      go true e =
          let own : Own s (at + 1) (at + 11) = λ k a b. graphic-step s k (form-byte e k a b) in
          let chars = chars-plain s at (at + 11) quote (omega arith) own close in
          let ten-long : (at + 11) - (at + 1) ≡ 10 = omega arith in
          inr (is_date ∙ ap date_of (is_ten ∙ sym (rw ten-long at chars)))

-- ---- a date as it stands between two quotes: its bytes, and that the string is a date
told-form : (cs : List ℕ) → is_told (date_of cs) ≡ true → has_form cs ≡ true
told-form cs t = go (has_form cs) refl
  where
    go : (f : Bool) → has_form cs ≡ f → has_form cs ≡ true
    go true e = e
    go false e = absurd (false≢true (rw (no-form cs e) at t))

told-whole : (r d : Date) → (r ≡ None) ⊎ (r ≡ d) → is_told r ≡ true → is_told d ≡ true
told-whole r d e t = ⊎_elim (λ q. absurd (false≢true (rw q at t))) (λ q. rw q at t) e

pub record PlainDate (s : List ℕ) (at : ℕ) : Type 0 where
  pub quote : byte_at s at ≡ 34
  pub close : byte_at s (at + 11) ≡ 34
  pub within : at + 11 < length s
  pub bytes : (k : ℕ) → at + 1 ≤ k → k < at + 11 → Graphic (byte_at s k)
  pub told : is_told (date_of (chars_at s at)) ≡ true

pub plain-date : (s : List ℕ) (at : ℕ) → is_plain_date s at ≡ true → PlainDate s at
unfolding is_plain_date
plain-date s at e =
    let behind : (eqb (byte_at s (at + 11)) 34 && is_told (date_of (take 10 (drop (at + 1) s)))) ≡ true = both_right (eqb (byte_at s at) 34) _ e in
    let q = eqb-true (byte_at s at) 34 (both_left (eqb (byte_at s at) 34) _ e) in
    let c = eqb-true (byte_at s (at + 11)) 34 (both_left (eqb (byte_at s (at + 11)) 34) _ behind) in
    let t : is_told (date_of (take 10 (drop (at + 1) s))) ≡ true = both_right (eqb (byte_at s (at + 11)) 34) _ behind in
    let l = inside s (at + 11) 34 c (lit< tt) in
    record {
      quote = q;
      close = c;
      within = l;
      bytes = form-byte s at l _ refl (told-form _ t);
      told = told-whole _ _ (plain-or-none s at l _ refl q c _ refl) t;
    }

-- there is none so near the end of the file that its closing quote would stand behind it
pub past_end : (s : List ℕ) (at : ℕ) → length s ≤ at + 11 → is_plain_date s at ≡ false
past_end s at l = go (is_plain_date s at) refl
  where
    go : (t : Bool) → is_plain_date s at ≡ t → is_plain_date s at ≡ false
    go false e = e
    go true e = absurd (omega (arith, (plain-date s at e).within))

-- ---- a date of a year from 1000 on, in any month up to its 28th, by its ten bytes
record Two (a b most : ℕ) : Type 0 where
  pub tens : within 48 57 a ≡ true
  pub ones : within 48 57 b ≡ true
  pub number : within 1 most ((a - 48) * 10 + (b - 48)) ≡ true

two : (a b most : ℕ) → is_two_of a b most ≡ true → Two a b most
unfolding is_two_of
two a b most e =
    let behind : (within 48 57 b && within 1 most ((a - 48) * 10 + (b - 48))) ≡ true = both_right (within 48 57 a) _ e in
    record {
      tens = both_left (within 48 57 a) _ e;
      ones = both_left (within 48 57 b) _ behind;
      number = both_right (within 48 57 b) _ behind;
    }

module _ (a b c d : ℕ) (ea : within 49 57 a ≡ true) (eb : within 48 57 b ≡ true) (ec : within 48 57 c ≡ true) (ed : within 48 57 d ≡ true) where
  first-of-year : within 48 57 a ≡ true
  first-of-year = lies_within 48 57 a (omega (arith, within-from 49 57 a ea)) (within-to 49 57 a ea)

  year-from-1000 : within 1 9999 (((a - 48) * 10 + (b - 48)) * 100 + ((c - 48) * 10 + (d - 48))) ≡ true
  year-from-1000 =
      lies_within 1 9999 _ (omega (arith, within-from 49 57 a ea))
      (omega (arith, within-to 49 57 a ea, within-to 48 57 b eb, within-to 48 57 c ec, within-to 48 57 d ed))

  early_bytes : (m e f n g h : ℕ) → m ≡ 45 → n ≡ 45 → is_two_of e f 12 ≡ true → is_two_of g h 28 ≡ true → is_told (date_of (a ∷ b ∷ c ∷ d ∷ m ∷ e ∷ f ∷ n ∷ g ∷ h ∷ [])) ≡ true
  unfolding date_of has_form is_day all_digits_at two_at year_of month_of day_of
  early_bytes m e f n g h em en month day =
      let mo = two e f 12 month in
      let da = two g h 28 day in
      rw (eq-eqb m 45 em, eq-eqb n 45 en, first-of-year, eb, ec, ed, mo.tens, mo.ones, da.tens, da.ones, year-from-1000, mo.number, day_early _ _ _ da.number)

pub early_told : (s : List ℕ) (i : ℕ) → is_early_day s i ≡ true → i + 10 ≤ length s → is_told (date_of (take 10 (drop i s))) ≡ true
unfolding is_early_day
early_told s i e l =
    let behind = both_right (eqb (byte_at s (i + 4)) 45) _ e in
    let year = both_right (eqb (byte_at s (i + 7)) 45) _ behind in
    let hundreds = both_right (within 49 57 (byte_at s i)) _ year in
    let tens = both_right (within 48 57 (byte_at s (i + 1))) _ hundreds in
    let ones = both_right (within 48 57 (byte_at s (i + 2))) _ tens in
    let days = both_right (within 48 57 (byte_at s (i + 3))) _ ones in
    rw (ten-bytes s i l)
    (early_bytes _ _ _ _
    (both_left (within 49 57 (byte_at s i)) _ year)
    (both_left (within 48 57 (byte_at s (i + 1))) _ hundreds)
    (both_left (within 48 57 (byte_at s (i + 2))) _ tens)
    (both_left (within 48 57 (byte_at s (i + 3))) _ ones)
    _ _ _ _ _ _
    (eqb-true (byte_at s (i + 4)) 45 (both_left (eqb (byte_at s (i + 4)) 45) _ e))
    (eqb-true (byte_at s (i + 7)) 45 (both_left (eqb (byte_at s (i + 7)) 45) _ behind))
    (both_left (is_two_of (byte_at s (i + 5)) (byte_at s (i + 6)) 12) _ days)
    (both_right (is_two_of (byte_at s (i + 5)) (byte_at s (i + 6)) 12) _ days))

pub early_plain : (s : List ℕ) (at : ℕ) → byte_at s at ≡ 34 → byte_at s (at + 11) ≡ 34 → is_early_day s (at + 1) ≡ true → at + 11 < length s → is_plain_date s at ≡ true
unfolding is_plain_date
early_plain s at quote end early l =
    rw (eq-eqb (byte_at s at) 34 quote, eq-eqb (byte_at s (at + 11)) 34 end) (early_told s (at + 1) early (omega arith))
