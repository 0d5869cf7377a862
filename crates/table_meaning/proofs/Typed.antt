-- A value that a field holds is one of its type.
-- Assumes nothing.
use Rattle.std.specs.Prelude.{Ok, Err}
use Prim.Native.Nat.{ℕ, zero, suc, ◌+◌, ◌≤◌, ◌<◌}
use mathlib.Core.Path.{◌≡◌, refl}
use mathlib.Core.Bool.{true}
use mathlib.Core.List.{List}
use native.Mathlib.Omega.{arith}
use borrow.Author.Tests.{eqb-true, eqb-false, eq-eqb}
use lib.ListN.{length}
use lib.Dec.{ltb, eqb}
use Rattle.json_bytes.specs.Reads.{byte_at, within, literal_at, Reading, fault_at}
use Rattle.json_bytes.proofs.Laws.{by-test, inside, within-from}
use Rattle.json_chars.specs.Step.{step_at}
use Rattle.json_chars.specs.Chars.{chars_at}
use Rattle.json_chars.specs.declared.Step.{Step}
use Rattle.json_chars.specs.declared.Step.TheVariants.{Char, Close, Bad as BadStep}
use Rattle.json_chars.proofs.Bounds.{Good, step-good}
use Rattle.json_text.specs.Text.{text_from, text_read_at, text_read}
use Rattle.json_text.specs.declared.Wrong.{Wrong}
use Rattle.json_number.specs.Number.{number_at, integer_of}
use Rattle.json_number.specs.declared.Value.{Value}
use Rattle.json_number.specs.declared.Value.TheVariants.{Fits, Beyond}
use Rattle.json_number.specs.declared.Integer.{Integer}
use Rattle.json_number.specs.declared.Integer.TheVariants.{Is, Fraction, TooLarge}
use Rattle.json_date.specs.Date.{Date, date_of}
use Rattle.std.specs.Prelude.{Some, None}
use Rattle.table_rows.specs.Types.{boolean, date, decimal_type, integer, string, text}
use Rattle.table_value.specs.Value.{text_held, date_held, string_in, string_value, decimal_held, integer_held, number_in, number_value, literal_in, literal_value, starts_number, opens, value_at}
use Rattle.table_value.specs.declared.ValueRead.{ValueRead}
use Rattle.table_value.specs.declared.ValueRead.TheVariants.{Held, Null, Bad}
use Rattle.table_meaning.specs.Typed.{Typed, AText, ADate, ADecimal, AnInteger, ABoolean}

-- ---- a string ends behind the place where its characters begin
module _ (s : List ℕ) where
  abbrev EndsBehind : ℕ → Reading → Type 0
  EndsBehind i r = (end : ℕ) → r ≡ Ok end → i < end

  step-ends : (f i : ℕ) → ((next : ℕ) → next ≤ length s → EndsBehind next (text_from f s next)) → (t : Step) → Good s i t → EndsBehind i (elim t [ Char code next ↦ text_from f s next | Close ↦ Ok (i + 1) | BadStep kind place ↦ fault_at kind place ])
  step-ends f i rest (Char code next) g end e = omega (arith, g.0, rest next g.1 end e)
  step-ends f i rest Close g end e = let q : i + 1 ≡ end = cc in omega arith
  step-ends f i rest (BadStep kind place) g end e = let z : ◌≡◌ {A = ℕ} 0 1 = cc in absurd (omega arith)

  from-ends : (f i : ℕ) → i ≤ length s → EndsBehind i (text_from f s i)
  unfolding text_from
  from-ends zero i l = λ end e. let z : ◌≡◌ {A = ℕ} 0 1 = cc in absurd (omega arith)
  from-ends (suc f) i l = step-ends f i (from-ends f) (step_at s i) (step-good s i l)

  text-ends : (at end : ℕ) → byte_at s at ≡ 34 → text_read_at s at ≡ Ok end → at + 1 < end
  unfolding text_read_at
  text-ends at end quote e =
      from-ends (length s) (at + 1) (omega (arith, inside s at 34 quote (omega arith))) end (rw (eq-eqb (byte_at s at) 34 quote) at e)

  -- and begins with a quote
  pub text-quote : (at end : ℕ) → text_read_at s at ≡ Ok end → byte_at s at ≡ 34
  unfolding text_read_at
  text-quote at end =
      by-test (λ (r : Reading). r ≡ Ok end → byte_at s at ≡ 34) (eqb (byte_at s at) 34) _ _
      (λ e _. eqb-true (byte_at s at) 34 e) (λ _ e. let z : ◌≡◌ {A = ℕ} 0 1 = cc in absurd (omega arith))

-- ---- what a value shows that is held
module _ (s : List ℕ) (at ty end : ℕ) where
  abbrev Shows : ValueRead → Type 0
  Shows v = v ≡ Held end → Typed s ty at end

  bad : (kind place : ℕ) → Shows (Bad kind place)
  bad kind place e = let z : ◌≡◌ {A = ℕ} 0 1 = cc in absurd (omega arith)

  null : (e : ℕ) → Shows (Null e)
  null e q = let z : ◌≡◌ {A = ℕ} 0 1 = cc in absurd (omega arith)

  -- held up to e, which is the end
  held : (e : ℕ) → (e ≡ end → Typed s ty at end) → Shows (Held e)
  held e f q = f (cc)

  of-date : (e : ℕ) → ty ≡ date → text_read_at s at ≡ Ok e → (d : Date) → date_of (chars_at s at) ≡ d → Shows (date_held at e d)
  unfolding date_held
  of-date e is_date whole (Some day) is = held e (λ q. ADate is_date (rw q at whole) is)
  of-date e is_date whole None is = bad 17 at

  of-text : byte_at s at ≡ 34 → (wrong : Wrong) (r : Reading) → text_read_at s at ≡ r → Shows (elim r [ Ok e ↦ string_in s at ty e wrong | Err e ↦ Bad e.kind e.place ])
  unfolding string_in text_held
  of-text quote wrong (Ok e) whole =
      by-test Shows (within string text ty) _ _
      (λ is_text. by-test Shows (ltb 0 wrong.rule) _ _ (λ _. bad _ _)
      (λ _. by-test Shows (eqb e (at + 2)) _ _ (λ _. null e)
      (λ more. held e (λ q. AText is_text (rw q at whole) (omega (arith, q, text-ends s at e quote whole, eqb-false e (at + 2) more))))))
      (λ _. by-test Shows (eqb ty date) _ _ (λ is_date. of-date e (eqb-true ty date is_date) whole (date_of (chars_at s at)) refl) (λ _. bad 15 at))
  of-text quote wrong (Err e) whole = bad e.kind e.place

  of-decimal : (e : ℕ) → ty ≡ decimal_type → (number_at s at).reading ≡ Ok e → (v : Value) → (number_at s at).value ≡ v → Shows (decimal_held at e v)
  unfolding decimal_held
  of-decimal e is_decimal whole (Fits negative c p15) is = held e (λ q. ADecimal is_decimal (rw q at whole) is)
  of-decimal e is_decimal whole Beyond is = bad 18 at

  of-integer : (e : ℕ) → ty ≡ integer → (number_at s at).reading ≡ Ok e → (n : Integer) → integer_of (number_at s at).value ≡ n → Shows (integer_held at e n)
  unfolding integer_held
  of-integer e is_integer whole (Is negative magnitude) is = held e (λ q. AnInteger is_integer (rw q at whole) is)
  of-integer e is_integer whole Fraction is = bad 34 at
  of-integer e is_integer whole TooLarge is = bad 18 at

  of_number : (r : Reading) → (number_at s at).reading ≡ r → Shows (elim r [ Ok e ↦ number_in at ty e (number_at s at).value | Err e ↦ Bad e.kind e.place ])
  unfolding number_in
  of_number (Ok e) whole =
      by-test Shows (eqb ty decimal_type) _ _ (λ is_decimal. of-decimal e (eqb-true ty decimal_type is_decimal) whole (number_at s at).value refl)
      (λ _. by-test Shows (eqb ty integer) _ _
      (λ is_integer. of-integer e (eqb-true ty integer is_integer) whole (integer_of (number_at s at).value) refl) (λ _. bad 15 at))
  of_number (Err e) whole = bad e.kind e.place

  of-literal : (r : Reading) → literal_at s at ≡ r → Shows (literal_value s at ty r)
  unfolding literal_value literal_in
  of-literal (Ok e) whole =
      by-test Shows (eqb (byte_at s at) 110) _ _ (λ _. null e)
      (λ other. by-test Shows (eqb ty boolean) _ _
      (λ is_boolean. held e (λ q. ABoolean (eqb-true ty boolean is_boolean) (rw q at whole) (eqb-false (byte_at s at) 110 other))) (λ _. bad 15 at))
  of-literal (Err e) whole = bad e.kind e.place

  pub held-typed : value_at s at ty ≡ Held end → Typed s ty at end
  unfolding value_at string_value number_value text_read
  held-typed =
      by-test Shows (eqb (byte_at s at) 34) _ _ (λ e. of-text (eqb-true (byte_at s at) 34 e) _ (text_read_at s at) refl)
      (λ _. by-test Shows (starts_number (byte_at s at)) _ _ (λ _. of_number (number_at s at).reading refl)
      (λ _. by-test Shows (opens (byte_at s at)) _ _ (λ _. bad 15 at) (λ _. of-literal (literal_at s at) refl)))

  -- a type has one kind of value
  pub typed-text : within string text ty ≡ true → Typed s ty at end → (byte_at s at ≡ 34) × (text_read_at s at ≡ Ok end) × (at + 2 < end)
  typed-text is_text (AText _ whole more) = (text-quote s at end whole, whole, more)
  typed-text is_text (ADate is _ _) = absurd (omega (arith, within-from string text ty is_text, is))
  typed-text is_text (ADecimal is _ _) = absurd (omega (arith, within-from string text ty is_text, is))
  typed-text is_text (AnInteger is _ _) = absurd (omega (arith, within-from string text ty is_text, is))
  typed-text is_text (ABoolean is _ _) = absurd (omega (arith, within-from string text ty is_text, is))
