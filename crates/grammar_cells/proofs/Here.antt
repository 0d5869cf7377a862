-- What a reader reads whole is of the grammar where it stands: spaces, strings, and values with whether they are null.
-- Assumes nothing.
use Rattle.std.specs.Prelude.{Ok, Err}
use Prim.Native.Nat.{ℕ, ◌+◌, ◌≤◌}
use mathlib.Core.Path.{◌≡◌, refl}
use mathlib.Core.Bool.{Bool, true, false, ◌&&◌, ◌||◌}
use mathlib.Core.List.{List, [], ◌∷◌, ◌++◌, append-nil}
use native.Mathlib.Omega.{arith}
use borrow.Author.Tests.{eqb-true, ne_eqb}
use lib.Dec.{ltb, eqb}
use lib.ListN.{length, drop}
use lib.Seq.{slice}
use Rattle.json_bytes.specs.Reads.{byte_at, within, spaces_end, literal_at, Reading}
use Rattle.json_bytes.proofs.Laws.{by-test}
use Rattle.json_bytes.proofs.Bounds.{Within, literal-within}
use Rattle.json_chars.specs.Chars.{chars_at}
use Rattle.json_text.specs.Text.{text_read_at, wrong_at, text_read}
use Rattle.json_text.specs.declared.Wrong.{Wrong}
use Rattle.json_text.proofs.Bounds.{text-within}
use Rattle.json_number.specs.Number.{number_at, integer_of}
use Rattle.json_number.specs.declared.Value.{Value as NumberValue}
use Rattle.json_number.specs.declared.Value.TheVariants.{Fits, Beyond}
use Rattle.json_number.specs.declared.Integer.{Integer}
use Rattle.json_number.specs.declared.Integer.TheVariants.{Is, Fraction, TooLarge}
use Rattle.json_number.proofs.Laws.{whole_in}
use Rattle.json_date.specs.Date.{Date, date_of}
use Rattle.std.specs.Prelude.{Some, None}
use Rattle.table_value.specs.Value.{text_type, text_held, date_held, string_in, string_value, decimal_held, integer_held, number_in, number_value, literal_in, literal_value, starts_number, opens, value_at}
use Rattle.table_value.specs.declared.ValueRead.{ValueRead}
use Rattle.table_value.specs.declared.ValueRead.TheVariants.{Held, Null, Bad}
use Rattle.grammar.specs.Grammar.{Bytes, Spaces, Literal, Number, String, Value, meant}
use Rattle.grammar.specs.Claims.{AString, Only}
use Rattle.grammar_machine.proofs.Machine.{spaces}
use Rattle.grammar_machine.proofs.Language.{Words}
use Rattle.grammar_machine.proofs.More.{spaces-more, literal-more, number_more, string-more}
use Rattle.grammar_machine.proofs.Places.{slice-rest, At, at-start}
use Rattle.grammar_machine.proofs.Tokens.{spaces-at, literal-whole}
use Rattle.grammar_numbers.proofs.Numbers.{number-whole}
use Rattle.grammar_files.proofs.Strings.{string-whole}
use Rattle.grammar_chars.proofs.Meaning.{string-means}

-- a token between two places stands at the first, with what stands at the second behind it
here : (X : Bytes → Bytes → Type 0) → ((l r : Bytes) → X l r → (x : Bytes) → X (l ++ x) (r ++ x)) → (s : Bytes) (start end : ℕ) → start ≤ end → end ≤ length s → Only X (slice start end s) → X (drop start s) (drop end s)
here X more s start end l m h = rw (slice-rest s start end l m) (more (slice start end s) [] h (drop end s))

pub spaces-here : (s : Bytes) (i : ℕ) → i ≤ length s → Spaces (drop i s) (drop (spaces_end s i) s)
spaces-here s i l =
    let a : At (spaces ∷ []) i s [] (spaces_end s i) = spaces-at [] (at-start (spaces ∷ []) i s l) in
    let w : Words (spaces ∷ []) (λ r. r ≡ []) (slice i (spaces_end s i) s ++ []) = a.completes [] refl in
    here Spaces (λ l r h. spaces-more h) s i (spaces_end s i) a.begun a.inside
    (rw (append-nil (slice i (spaces_end s i) s), w.2) at w.1)

module _ (s : Bytes) (at : ℕ) (l : at ≤ length s) where
  string-in : {end : ℕ} → text_read_at s at ≡ Ok end → AString (drop at s) (drop end s)
  string-in {end} e =
      let w : Within s at (Ok end) = rw e at (text-within s at l) in
      here AString (λ l r h x. (h.0, string-more h.1 x)) s at end (omega (arith, w.0)) w.1 (string-whole s at l e).is_one

  -- a string, and the characters that it is decoded to
  pub string-here : {end : ℕ} → text_read_at s at ≡ Ok end → (cs : List ℕ) × String (drop at s) cs (drop end s) × (chars_at s at ≡ meant cs)
  string-here e = ((string-in e).0, (string-in e).1, string-means s at (string-in e).1)

  literal-here : {end : ℕ} → literal_at s at ≡ Ok end → Literal (drop at s) (drop end s)
  literal-here {end} e =
      let w : Within s at (Ok end) = rw e at (literal-within s at l) in
      here Literal (λ l r h. literal-more h) s at end (omega (arith, w.0)) w.1 (literal-whole s at l e).is_one

  number-here : {end : ℕ} → (number_at s at).reading ≡ Ok end → Number (drop at s) (drop end s)
  number-here {end} e =
      here Number (λ l r h. number_more h) s at end (omega (arith, (whole_in s at e).0)) (whole_in s at e).1 (number-whole s at l e).is_one

-- ---- A value, and whether it is null
-- as the reader tells it: by the first byte, or by its end in the types of strings
abbrev pub null_at : Bytes → ℕ → ℕ → ℕ → Bool
null_at s at ty end = eqb (byte_at s at) 110 || (within 4 6 ty && eqb end (at + 2))

abbrev pub ValueIs : Bytes → ℕ → ℕ → ValueRead → Type 0
ValueIs s at ty (Held end) = Value (drop at s) (drop end s) × (null_at s at ty end ≡ false)
ValueIs s at ty (Null end) = Value (drop at s) (drop end s) × (null_at s at ty end ≡ true)
ValueIs s at ty (Bad kind place) = Unit {0}

module _ (s : Bytes) (at ty : ℕ) where
  abbrev Judged : ValueRead → Type 0
  Judged = ValueIs s at ty

  no-string : (end : ℕ) → eqb (byte_at s at) 110 ≡ false → within 4 6 ty ≡ false → null_at s at ty end ≡ false
  no-string end n m = rw (n, m)

  module _ (end : ℕ) (v : Value (drop at s) (drop end s)) where
    text-is : eqb (byte_at s at) 110 ≡ false → within 4 6 ty ≡ true → (w : Wrong) → Judged (text_held at end w)
    unfolding text_held
    text-is n m w =
        by-test Judged (ltb 0 w.rule) _ _ (λ _. tt)
        (λ _. by-test Judged (eqb end (at + 2)) _ _ (λ e. (v, rw (n, m, e))) (λ e. (v, rw (n, m, e))))

    date-is : eqb (byte_at s at) 110 ≡ false → within 4 6 ty ≡ false → (d : Date) → Judged (date_held at end d)
    unfolding date_held
    date-is n m (Some day) = (v, no-string end n m)
    date-is n m None = tt

    string-is : eqb (byte_at s at) 110 ≡ false → (w : Wrong) → Judged (string_in s at ty end w)
    unfolding string_in
    string-is n w =
        by-test Judged (within 4 6 ty) _ _ (λ m. text-is n m w)
        (λ m. by-test Judged (eqb ty 1) _ _ (λ _. date-is n m (date_of (chars_at s at))) (λ _. tt))

    module _ (n : eqb (byte_at s at) 110 ≡ false) (m : within 4 6 ty ≡ false) where
      decimal-is : (x : NumberValue) → Judged (decimal_held at end x)
      unfolding decimal_held
      decimal-is (Fits negative c p15) = (v, no-string end n m)
      decimal-is Beyond = tt

      integer-is : (x : Integer) → Judged (integer_held at end x)
      unfolding integer_held
      integer-is (Is negative magnitude) = (v, no-string end n m)
      integer-is Fraction = tt
      integer-is TooLarge = tt

    number_is : eqb (byte_at s at) 110 ≡ false → (x : NumberValue) → Judged (number_in at ty end x)
    unfolding number_in within
    number_is n x =
        by-test Judged (eqb ty 2) _ _ (λ e. decimal-is n (rw (eqb-true ty 2 e)) x)
        (λ _. by-test Judged (eqb ty 3) _ _ (λ e. integer-is n (rw (eqb-true ty 3 e)) (integer_of x)) (λ _. tt))

    literal-is : Judged (literal_in s at ty end)
    unfolding literal_in within
    literal-is =
        by-test Judged (eqb (byte_at s at) 110) _ _ (λ e. (v, rw e))
        (λ n. by-test Judged (eqb ty 0) _ _ (λ e. (v, no-string end n (rw (eqb-true ty 0 e)))) (λ _. tt))

module _ (s : Bytes) (at ty : ℕ) (l : at ≤ length s) where
  string-value : eqb (byte_at s at) 110 ≡ false → (w : Wrong) (r : Reading) → text_read_at s at ≡ r → ValueIs s at ty (elim r [ Ok end ↦ string_in s at ty end w | Err e ↦ Bad e.kind e.place ])
  string-value n w (Ok end) e = string-is s at ty end (Value.string (string-here s at l e).1) n w
  string-value n w (Err x) e = tt

  number-value : eqb (byte_at s at) 110 ≡ false → (x : NumberValue) (r : Reading) → (number_at s at).reading ≡ r → ValueIs s at ty (elim r [ Ok end ↦ number_in at ty end x | Err e ↦ Bad e.kind e.place ])
  number-value n x (Ok end) e = number_is s at ty end (Value.number (number-here s at l e)) n x
  number-value n x (Err q) e = tt

  literal-value : (r : Reading) → literal_at s at ≡ r → ValueIs s at ty (literal_value s at ty r)
  unfolding literal_value
  literal-value (Ok end) e = literal-is s at ty end (Value.literal (literal-here s at l e))
  literal-value (Err x) e = tt

  not_null : (b : ℕ) → starts_number b ≡ true → eqb b 110 ≡ false
  unfolding starts_number within
  not_null b e =
      ne_eqb b 110 (λ q. let z : ◌≡◌ {A = Bool} false true = rw q at e in let y : ◌≡◌ {A = ℕ} 0 1 = cc in omega arith)

  pub value-is : ValueIs s at ty (value_at s at ty)
  unfolding value_at string_value number_value text_read
  value-is =
      by-test (ValueIs s at ty) (eqb (byte_at s at) 34) _ _
      (λ e. string-value (ne_eqb (byte_at s at) 110 (omega (arith, eqb-true (byte_at s at) 34 e))) (wrong_at (text_type ty) s at) (text_read_at s at) refl)
      (λ _. by-test (ValueIs s at ty) (starts_number (byte_at s at)) _ _
      (λ e. number-value (not_null (byte_at s at) e) (number_at s at).value (number_at s at).reading refl)
      (λ _. by-test (ValueIs s at ty) (opens (byte_at s at)) _ _ (λ _. tt) (λ _. literal-value (literal_at s at) refl)))
