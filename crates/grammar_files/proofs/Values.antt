-- A value in a field of any type, along the machine: read whole it ends where the machine is through with a value, and a
-- fault is told as the grammar has it.
-- Assumes nothing.
use Rattle.std.specs.Prelude.{Ok, Err}
use Prim.Native.Nat.{ℕ, ◌+◌, ◌≤◌, ◌<◌}
use mathlib.Core.Path.{◌≡◌, refl}
use mathlib.Core.Logic.{◌⊎◌, inl, inr}
use mathlib.Core.Bool.{Bool, true, false, ◌||◌}
use mathlib.Core.List.{[], ◌∷◌, ◌++◌}
use native.Mathlib.Omega.{arith}
use borrow.Author.Tests.{eqb-true, ltb-true, ne_eqb}
use lib.Dec.{ltb, eqb}
use lib.ListN.{drop}
use Rattle.json_bytes.specs.Reads.{byte_at, within, literal_at, Reading}
use Rattle.json_bytes.proofs.Laws.{by-test, inside, within-from, within-to}
use Rattle.json_chars.specs.Chars.{chars_at}
use Rattle.json_text.specs.Text.{text_read_at, wrong_at, text_read}
use Rattle.json_text.specs.declared.Wrong.{Wrong}
use Rattle.json_number.specs.Number.{number_at, integer_of}
use Rattle.json_number.specs.declared.Value.{Value as NumberValue}
use Rattle.json_number.specs.declared.Value.TheVariants.{Fits, Beyond}
use Rattle.json_number.specs.declared.Integer.{Integer}
use Rattle.json_number.specs.declared.Integer.TheVariants.{Is, Fraction, TooLarge}
use Rattle.json_date.specs.Date.{Date, date_of}
use Rattle.std.specs.Prelude.{Some, None}
use Rattle.table_value.specs.Value.{text_type, text_held, date_held, string_in, string_value, decimal_held, integer_held, number_in, number_value, literal_in, literal_value, starts_number, opens, value_at, token_at, not_object_of, not_object_at}
use Rattle.table_value.specs.declared.ValueRead.{ValueRead}
use Rattle.table_value.specs.declared.ValueRead.TheVariants.{Held, Null, Bad}
use Rattle.grammar.specs.Grammar
use Rattle.grammar.specs.Grammar.{Bytes, From}
use Rattle.grammar_machine.proofs.Machine.{value, literal, characters, Stack, a_number, row_of, expand}
use Rattle.grammar_machine.proofs.Language.{Words}
use Rattle.grammar_machine.proofs.Complete.{in-range, outside, value-number}
use Rattle.grammar_machine.proofs.Places.{drop-byte, At, push_at, become, swap_at}
use Rattle.grammar_machine.proofs.Tokens.{Told, judged, Answered, answered, literal-at}
use Rattle.grammar_numbers.proofs.Numbers.{number-at}
use Rattle.grammar_files.proofs.Strings.{TextRead, text-behind, WrongHere, wrong-behind}

-- ---- What a byte says of the value that it begins
-- a minus or a digit begins a number
begins-number : (b : ℕ) → starts_number b ≡ true → (b ≡ 0x2D) ⊎ From 0x30 0x39 b
unfolding starts_number
begins-number b e = go (eqb b 45) refl e
  where
    go : (t : Bool) → eqb b 45 ≡ t → (t || within 48 57 b) ≡ true → (b ≡ 0x2D) ⊎ From 0x30 0x39 b
    go true q h = inl (eqb-true b 45 q)
    go false q h = inr (within-from 48 57 b h, within-to 48 57 b h)

neither : (a b : Bool) → (a || b) ≡ false → (a ≡ false) × (b ≡ false)
neither true b e = (e, cc)
neither false b e = (refl, e)

out_of_range : (lowest highest b : ℕ) → within lowest highest b ≡ false → From lowest highest b → ⊥
out_of_range lowest highest b e h =
    let t : within lowest highest b ≡ true = in-range lowest highest b h in
    let z : ◌≡◌ {A = ℕ} 0 1 = cc in
    omega arith

-- what is no string, no number and no bracket is a literal, or nothing
begins-literal : (b : ℕ) → eqb b 34 ≡ false → starts_number b ≡ false → opens b ≡ false → expand value b ≡ expand literal b
unfolding starts_number opens row_of
begins-literal b q n o =
    let m : (eqb b 45 ≡ false) × (within 48 57 b ≡ false) = neither (eqb b 45) (within 48 57 b) n in
    let p : (eqb b 91 ≡ false) × (eqb b 123 ≡ false) = neither (eqb b 91) (eqb b 123) o in
    let none : From 48 57 b → ⊥ = out_of_range 48 57 b m.1 in
    rw (row_of, q, m.0, ne_eqb b 48 (λ e. none (omega arith)), outside 49 57 b (λ h. none (omega arith)), p.1, p.0)

-- ---- What the reader of a value answers
abbrev pub ValueAnswered : Stack → ℕ → Bytes → Stack → ValueRead → Type 0
ValueAnswered K₀ start s K (Held end) = At K₀ start s K end
ValueAnswered K₀ start s K (Null end) = At K₀ start s K end
ValueAnswered K₀ start s K (Bad kind place) = Told K₀ start s kind place

module _ (K₀ : Stack) (start : ℕ) (s : Bytes) (K : Stack) (at : ℕ) (a : At K₀ start s (value ∷ K) at) where
  abbrev Judged : ValueRead → Type 0
  Judged = ValueAnswered K₀ start s K

  -- the value's own place
  here : (kind : ℕ) → 12 ≤ kind → Judged (Bad kind at)
  here kind h = judged (value ∷ K) h a

  -- ---- Strings
  as-string : byte_at s at ≡ 34 → At K₀ start s (characters ∷ K) (at + 1)
  unfolding row_of
  as-string e = push_at value K (characters ∷ []) 34 e (omega arith) refl a

  module _ (ty end : ℕ) (b : At K₀ start s K end) where
    text-held : (w : Wrong) → WrongHere K₀ start s K w → Judged (text_held at end w)
    unfolding text_held
    text-held w h =
        by-test Judged (ltb 0 w.rule) _ _
        (λ t. judged (characters ∷ K) (omega arith) (h (ltb-true 0 w.rule t)))
        (λ _. by-test Judged (eqb end (at + 2)) _ _ (λ _. b) (λ _. b))

    date-held : (d : Date) → Judged (date_held at end d)
    unfolding date_held
    date-held (Some day) = b
    date-held None = here 17 (omega arith)

    string-in : (w : Wrong) → WrongHere K₀ start s K w → Judged (string_in s at ty end w)
    unfolding string_in
    string-in w h =
        by-test Judged (within 4 6 ty) _ _ (λ _. text-held w h)
        (λ _. by-test Judged (eqb ty 1) _ _ (λ _. date-held (date_of (chars_at s at))) (λ _. here 15 (omega arith)))

    -- ---- Numbers
    decimal-held : (v : NumberValue) → Judged (decimal_held at end v)
    unfolding decimal_held
    decimal-held (Fits negative c p15) = b
    decimal-held Beyond = here 18 (omega arith)

    integer-held : (v : Integer) → Judged (integer_held at end v)
    unfolding integer_held
    integer-held (Is negative magnitude) = b
    integer-held Fraction = here 34 (omega arith)
    integer-held TooLarge = here 18 (omega arith)

    number-in : (v : NumberValue) → Judged (number_in at ty end v)
    unfolding number_in
    number-in v =
        by-test Judged (eqb ty 2) _ _ (λ _. decimal-held v)
        (λ _. by-test Judged (eqb ty 3) _ _ (λ _. integer-held (integer_of v)) (λ _. here 15 (omega arith)))

    -- ---- Literals
    literal-in : Judged (literal_in s at ty end)
    unfolding literal_in
    literal-in =
        by-test Judged (eqb (byte_at s at) 110) _ _ (λ _. b)
        (λ _. by-test Judged (eqb ty 0) _ _ (λ _. b) (λ _. here 15 (omega arith)))

  string-value : (ty : ℕ) (w : Wrong) → WrongHere K₀ start s K w → (r : Reading) → TextRead K₀ start s K r → Judged (elim r [ Ok end ↦ string_in s at ty end w | Err e ↦ Bad e.kind e.place ])
  string-value ty w h (Ok end) b = string-in ty end b w h
  string-value ty w h (Err e) b = b.0

  number-value : (ty : ℕ) (v : NumberValue) (r : Reading) → Answered K₀ start s K r → Judged (elim r [ Ok end ↦ number_in at ty end v | Err e ↦ Bad e.kind e.place ])
  number-value ty v (Ok end) b = number-in ty end b v
  number-value ty v (Err e) b = b

  literal-value : (ty : ℕ) (r : Reading) → Answered K₀ start s K r → Judged (literal_value s at ty r)
  unfolding literal_value
  literal-value ty (Ok end) b = literal-in ty end b
  literal-value ty (Err e) b = b

  -- a number's symbols in place of a value's
  number-words : (t : Bytes) → Words (a_number ++ K) (λ r. r ≡ []) t → Words (value ∷ K) (λ r. r ≡ []) t
  number-words t w =
      (w.2.2.2.0, Grammar.number (Grammar.parts w.1 w.2.1 w.2.2.1 w.2.2.2.1), w.2.2.2.2)

  as_number : starts_number (byte_at s at) ≡ true → At K₀ start s (a_number ++ K) at
  as_number e = go (begins-number (byte_at s at) e)
    where
      by : 0 < byte_at s at → (byte_at s at ≡ 0x2D) ⊎ From 0x30 0x39 (byte_at s at) → At K₀ start s (a_number ++ K) at
      by p h =
          become
          (rw (drop-byte s at (byte_at s at) refl (inside s at (byte_at s at) refl p)) (value-number K (byte_at s at) (drop (at + 1) s) h))
          number-words a

      go : (byte_at s at ≡ 0x2D) ⊎ From 0x30 0x39 (byte_at s at) → At K₀ start s (a_number ++ K) at
      go (inl h) = by (omega arith) (inl h)
      go (inr h) = by (omega arith) (inr h)

  as-literal : eqb (byte_at s at) 34 ≡ false → starts_number (byte_at s at) ≡ false → opens (byte_at s at) ≡ false → At K₀ start s (literal ∷ K) at
  as-literal q n o = swap_at value literal K (begins-literal (byte_at s at) q n o) refl (λ l r w. Grammar.literal w) a

  pub value-at : (ty : ℕ) → Judged (value_at s at ty)
  unfolding value_at string_value number_value text_read
  value-at ty =
      by-test Judged (eqb (byte_at s at) 34) _ _
      (λ e. let q : byte_at s at ≡ 34 = eqb-true _ 34 e in
      string-value ty (wrong_at (text_type ty) s at) (wrong-behind K₀ start s K (text_type ty) at q (as-string q)) (text_read_at s at) (text-behind K₀ start s K at q (as-string q)))
      (λ q. by-test Judged (starts_number (byte_at s at)) _ _
      (λ e. number-value ty (number_at s at).value (number_at s at).reading (answered K₀ start s K (number_at s at).reading (number-at K at (as_number e))))
      (λ n. by-test Judged (opens (byte_at s at)) _ _
      (λ _. here 15 (omega arith))
      (λ o. literal-value ty (literal_at s at) (answered K₀ start s K (literal_at s at) (literal-at K at (as-literal q n o))))))

  -- ---- 12 where an object belongs
  not-object : (r : Reading) → Answered K₀ start s K r → Answered K₀ start s K (not_object_of at r)
  unfolding not_object_of
  not-object (Ok end) b = here 12 (omega arith)
  not-object (Err e) b = b

  of-text : (r : Reading) → TextRead K₀ start s K r → Answered K₀ start s K r
  of-text (Ok end) b = b
  of-text (Err e) b = b.0

  token-at : opens (byte_at s at) ≡ false → Answered K₀ start s K (token_at s at)
  unfolding token_at
  token-at o =
      by-test (Answered K₀ start s K) (eqb (byte_at s at) 34) _ _
      (λ e. let q : byte_at s at ≡ 34 = eqb-true _ 34 e in
      of-text (text_read_at s at) (text-behind K₀ start s K at q (as-string q)))
      (λ q. by-test (Answered K₀ start s K) (starts_number (byte_at s at)) _ _
      (λ e. answered K₀ start s K (number_at s at).reading (number-at K at (as_number e)))
      (λ n. answered K₀ start s K (literal_at s at) (literal-at K at (as-literal q n o))))

  pub not-object-at : Answered K₀ start s K (not_object_at s at)
  unfolding not_object_at
  not-object-at =
      by-test (Answered K₀ start s K) (opens (byte_at s at)) _ _ (λ _. here 12 (omega arith)) (λ o. not-object (token_at s at) (token-at o))
