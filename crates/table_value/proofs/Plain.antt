-- A date as it stands between two quotes, in a field of type Date, and a plain string in a field of text: whole strings that break no
-- rule, and held.
-- Assumes nothing.
use Rattle.std.specs.Prelude.{Ok}
use Prim.Native.Nat.{ℕ, ◌+◌, ◌≤◌, ◌<◌}
use mathlib.Core.Path.{◌≡◌, refl}
use mathlib.Core.Bool.{true, ◌&&◌, false≢true}
use mathlib.Core.List.{List}
use native.Mathlib.Omega.{arith}
use borrow.Author.Tests.{eqb-true, ne_eqb, le-leb}
use lib.ListN.{length}
use lib.Dec.{eqb, lit<}
use Rattle.json_bytes.specs.Reads.{byte_at, within}
use Rattle.json_bytes.proofs.Laws.{both_left, both_right, inside}
use Rattle.json_chars.specs.Chars.{chars_at}
use Rattle.json_chars.proofs.Plain.{closing-step}
use Rattle.json_text.specs.Run.{is_graphic, Run, plain_end}
use Rattle.json_text.specs.Text.{text_read}
use Rattle.json_text.specs.declared.TextType.{TextType}
use Rattle.json_text.proofs.Laws.{opened, along-run, take-close}
use Rattle.json_text.proofs.Plain.{plain-inside, plain-read}
use Rattle.json_date.specs.Date.{Date, date_of}
use Rattle.json_date.specs.Plain.{is_told, is_plain_date}
use Rattle.std.specs.Prelude.{Some, None}
use Rattle.json_date.proofs.Plain.{Graphic, PlainDate, plain-date}
use Rattle.json_number.specs.Number.{number_at}
use Rattle.json_number.specs.Short.{short_end}
use Rattle.json_number.proofs.Short.{short-read}
use Rattle.table_rows.specs.Types.{date, decimal_type, string, text}
use Rattle.table_value.specs.Value.{text_type, text_held, date_held, string_in, string_value, decimal_held, number_in, number_value}
use Rattle.table_value.specs.declared.ValueRead.TheVariants.{Held}
use Rattle.table_value.proofs.Bounds.{rule-of}

-- digits and dashes are characters by themselves
date-byte : (c : ℕ) → Graphic c → is_graphic c ≡ true
unfolding is_graphic within
date-byte c g =
    rw (
      ne_eqb c 34 (λ e. omega (arith, g.from)),
      ne_eqb c 92 (λ e. omega (arith, g.to)),
      le-leb 0x21 c (omega (arith, g.from)),
      le-leb c 0x7E (omega (arith, g.to)),
    )

told-held : (at end : ℕ) (d : Date) → is_told d ≡ true → date_held at end d ≡ Held end
unfolding date_held
told-held at end (Some day) t = refl
told-held at end None t = absurd (false≢true t)

module _ (s : List ℕ) (at : ℕ) (p : PlainDate s at) where
  date-run : Run s (at + 1) (at + 11)
  date-run = record { onwards = omega arith; graphic = λ k a b. date-byte (byte_at s k) (p.bytes k a b) }

  date-read : (ty : TextType) → text_read ty s at ≡ record { reading = Ok (at + 12); wrong = record { rule = 0; place = 0 } }
  date-read ty =
      let behind : (at + 11) + 1 ≡ at + 12 = omega arith in
      let left = opened ty s at (omega (arith, p.within)) p.quote in
      rw behind at (take-close ty s at _ (at + 11) _ (along-run ty s at _ (at + 1) (at + 11) true left date-run) (closing-step s (at + 11) p.close))

  date-value : string_value s at date (text_read (text_type date) s at) ≡ Held (at + 12)
  unfolding string_value string_in within
  date-value = rw (date-read (text_type date)) (told-held at (at + 12) (date_of (chars_at s at)) p.told)

module _ (s : List ℕ) (at ty : ℕ) (e : (eqb ty date && is_plain_date s at) ≡ true) where
  there : PlainDate s at
  there = plain-date s at (both_right (eqb ty date) (is_plain_date s at) e)

  pub plain-date-inside : at + 11 < length s
  plain-date-inside = there.within

  pub plain-date-held : string_value s at ty (text_read (text_type ty) s at) ≡ Held (at + 12)
  plain-date-held = rw (eqb-true ty date (both_left (eqb ty date) (is_plain_date s at) e)) (date-value s at there)

-- ---- a plain string has a character
module _ (s : List ℕ) (at j : ℕ) (is : j ≡ plain_end s at) (h : 0 < j) where
  pub plain-held : (ty : ℕ) → within string text ty ≡ true → string_value s at ty (text_read (text_type ty) s at) ≡ Held (j + 1)
  unfolding string_value string_in text_held
  plain-held ty w =
      let some : at + 1 < j = (plain-inside s at j is h).0 in
      rw (plain-read s at j is h (text_type ty), w, ne_eqb (j + 1) (at + 2) (λ e. omega (arith, some, e)))

-- ---- what a string's cases need
pub rule_few : (ty : TextType) (s : List ℕ) (at : ℕ) → (text_read ty s at).wrong.rule ≤ 4
rule_few ty s at = rule-of ty s at (text_read ty s at) refl

pub plain_end_inside : (s : List ℕ) (at : ℕ) → 0 < plain_end s at → plain_end s at < length s
plain_end_inside s at h = (plain-inside s at (plain_end s at) refl h).1

module _ (s : List ℕ) (at ty : ℕ) (h : 0 < plain_end s at) where
  pub plain_string : string_value s at ty (text_read (text_type ty) s at) ≡ string_in s at ty (plain_end s at + 1) (record { rule = 0; place = 0 })
  unfolding string_value
  plain_string = rw (plain-read s at (plain_end s at) refl h (text_type ty))

  pub plain_text : string ≤ ty → ty ≤ text → string_value s at ty (text_read (text_type ty) s at) ≡ Held (plain_end s at + 1)
  unfolding within
  plain_text l m = plain-held s at (plain_end s at) refl h ty (rw (le-leb string ty l) (le-leb ty text m))

pub ruleset strings = (plain-date-inside, plain-date-held, plain_end_inside, plain_string, plain_text, rule_few)

-- ---- a short decimal is held, and a byte that is no 0 stands in the file
pub short_held : (s : List ℕ) (at : ℕ) → 0 < short_end s at → number_value at decimal_type (number_at s at) ≡ Held (short_end s at)
unfolding number_value number_in decimal_held
short_held s at some = rw (short-read s at (short_end s at) refl some).read

pub inside_byte : (s : List ℕ) (at : ℕ) → byte_at s at ≡ 34 → at < length s
inside_byte s at e = inside s at 34 e (lit< tt)
