-- What a caller needs of a value: it ends behind its first byte and within the file, and a fault's place lies within the
-- file or at its length.
-- Assumes nothing.
use Rattle.std.specs.Prelude.{Ok, Err}
use Prim.Native.Nat.{ℕ, ◌+◌, ◌≤◌, ◌<◌}
use mathlib.Core.Path.{◌≡◌}
use mathlib.Core.List.{List}
use lib.ListN.{length}
use lib.Dec.{ltb, eqb}
use Rattle.json_bytes.specs.Reads.{byte_at, within, literal_at, Reading}
use Rattle.json_bytes.proofs.Laws.{by-test}
use Rattle.json_bytes.proofs.Bounds.{Within, literal-within}
use Rattle.json_chars.specs.Chars.{chars_at}
use Rattle.json_text.specs.Text.{text_read, text_read_at, wrong_at}
use Rattle.json_text.specs.declared.TextType.{TextType}
use Rattle.json_text.specs.declared.Wrong.{Wrong}
use Rattle.json_text.specs.declared.TextRead.{TextRead}
use Rattle.json_text.proofs.Bounds.{text-within, wrong-within}
use Rattle.json_text.proofs.FaultKinds.{rule-few, wrong-rule}
use Rattle.json_number.specs.Number.{number_at, integer_of}
use Rattle.json_number.specs.declared.Value.{Value}
use Rattle.json_number.specs.declared.Value.TheVariants.{Fits, Beyond}
use Rattle.json_number.specs.declared.Integer.{Integer}
use Rattle.json_number.specs.declared.Integer.TheVariants.{Is, Fraction, TooLarge}
use Rattle.json_number.proofs.Places.{ReadingIn, number-in}
use Rattle.json_date.specs.Date.{Date, date_of}
use Rattle.std.specs.Prelude.{Some, None}
use Rattle.table_value.specs.Value.{
  text_type,
  text_held,
  date_held,
  string_in,
  string_value,
  decimal_held,
  integer_held,
  number_in,
  number_value,
  literal_in,
  literal_value,
  starts_number,
  opens,
  value_at,
  token_at,
  not_object_of,
  not_object_at,
}
use Rattle.table_value.specs.declared.ValueRead.{ValueRead}
use Rattle.table_value.specs.declared.ValueRead.TheVariants.{Held, Null, Bad}

-- the rules are four, so that their kinds are numbers of 32 bits
pub rule-of : (ty : TextType) (s : List ℕ) (at : ℕ) (t : TextRead) → t ≡ text_read ty s at → t.wrong.rule ≤ 4
unfolding text_read
rule-of ty s at t e = rw e (rule-few ty (wrong_at ty s at).rule (wrong-rule ty s at))

abbrev pub ValueIn : List ℕ → ℕ → ValueRead → Type 0
ValueIn s at (Held end) = (at < end) × (end ≤ length s)
ValueIn s at (Null end) = (at < end) × (end ≤ length s)
ValueIn s at (Bad kind place) = place ≤ length s

module _ (s : List ℕ) (at : ℕ) (l : at ≤ length s) where
  string-in : (ty end : ℕ) (wrong : Wrong) → wrong.place ≤ length s → (at < end) × (end ≤ length s) → ValueIn s at (string_in s at ty end wrong)
  unfolding string_in text_held date_held
  string-in ty end wrong w h =
      by-test (ValueIn s at) (within 4 6 ty) _ _
      (λ _. by-test (ValueIn s at) (ltb 0 wrong.rule) _ _ (λ _. w) (λ _. by-test (ValueIn s at) (eqb end (at + 2)) _ _ (λ _. h) (λ _. h)))
      (λ _. by-test (ValueIn s at) (eqb ty 1) _ _ (λ _. of-date (date_of (chars_at s at))) (λ _. l))
    where
      of-date : (d : Date) → ValueIn s at (date_held at end d)
      of-date (Some day) = h
      of-date None = l

  of-text : (ty : ℕ) (wrong : Wrong) → wrong.place ≤ length s → (r : Reading) → Within s at r → ValueIn s at (elim r [ Ok end ↦ string_in s at ty end wrong | Err e ↦ Bad e.kind e.place ])
  of-text ty wrong w (Ok end) h = string-in ty end wrong w h
  of-text ty wrong w (Err e) h = h

  number-held : (ty end : ℕ) (v : Value) → (at < end) × (end ≤ length s) → ValueIn s at (number_in at ty end v)
  unfolding number_in decimal_held integer_held
  number-held ty end v h =
      by-test (ValueIn s at) (eqb ty 2) _ _ (λ _. of-value v)
      (λ _. by-test (ValueIn s at) (eqb ty 3) _ _ (λ _. of-integer (integer_of v)) (λ _. l))
    where
      of-value : (v : Value) → ValueIn s at (decimal_held at end v)
      of-value (Fits negative c p15) = h
      of-value Beyond = l

      of-integer : (n : Integer) → ValueIn s at (integer_held at end n)
      of-integer (Is negative magnitude) = h
      of-integer Fraction = l
      of-integer TooLarge = l

  number-within : (r : Reading) → ReadingIn s at r → Within s at r
  number-within (Ok end) h = h
  number-within (Err e) h = h.1 l

  of_number : (ty : ℕ) (v : Value) (r : Reading) → Within s at r → ValueIn s at (elim r [ Ok end ↦ number_in at ty end v | Err e ↦ Bad e.kind e.place ])
  of_number ty v (Ok end) h = number-held ty end v h
  of_number ty v (Err e) h = h

  of-literal : (ty : ℕ) (r : Reading) → Within s at r → ValueIn s at (literal_value s at ty r)
  unfolding literal_value literal_in
  of-literal ty (Ok end) h =
      by-test (ValueIn s at) (eqb (byte_at s at) 110) _ _ (λ _. h) (λ _. by-test (ValueIn s at) (eqb ty 0) _ _ (λ _. h) (λ _. l))
  of-literal ty (Err e) h = h

  pub value_in : (ty : ℕ) → ValueIn s at (value_at s at ty)
  unfolding value_at string_value number_value text_read
  value_in ty =
      by-test (ValueIn s at) (eqb (byte_at s at) 34) _ _ (λ _. of-text ty _ (wrong-within (text_type ty) s at) (text_read_at s at) (text-within s at l))
      (λ _. by-test (ValueIn s at) (starts_number (byte_at s at)) _ _ (λ _. of_number ty _ (number_at s at).reading (number-within (number_at s at).reading (number-in s at)))
      (λ _. by-test (ValueIn s at) (opens (byte_at s at)) _ _ (λ _. l) (λ _. of-literal ty (literal_at s at) (literal-within s at l))))

  not-of : (r : Reading) → Within s at r → Within s at (not_object_of at r)
  unfolding not_object_of
  not-of (Ok end) h = l
  not-of (Err e) h = h

  pub not-object-in : Within s at (not_object_at s at)
  unfolding not_object_at token_at
  not-object-in =
      by-test (Within s at) (opens (byte_at s at)) _ _ (λ _. l)
      (λ _. not-of (token_at s at)
      (by-test (Within s at) (eqb (byte_at s at) 34) _ _ (λ _. text-within s at l)
      (λ _. by-test (Within s at) (starts_number (byte_at s at)) _ _ (λ _. number-within (number_at s at).reading (number-in s at))
      (λ _. literal-within s at l))))
