-- What is of the grammar the machine reads through, by recursion over how the grammar has it.
-- Assumes nothing.
use Prim.Native.Nat.{ℕ, zero, suc, ◌+◌, ◌≤◌}
use mathlib.Core.Path.{◌≡◌, refl, sym, ap, ◌∙◌}
use mathlib.Core.Logic.{◌≢◌, ◌⊎◌, inl, inr}
use mathlib.Core.Bool.{Bool, true, false}
use mathlib.Core.List.{List, [], ◌∷◌, ◌++◌, append_assoc, map}
use native.Mathlib.Decide.{ℕ_discrete, dec_le}
use native.Mathlib.Omega.{arith}
use borrow.Author.Tests.{eq-eqb, ne_eqb, le-leb}
use lib.Dec.{eqb}
use Rattle.json_bytes.specs.Reads.{within}
use Rattle.json_bytes.proofs.Laws.{within-from, within-to}
use Rattle.grammar.specs.Grammar.{Bytes, From, Tail, Blank, Spaces, Literal, Digits, Whole, Minus, Fraction, Sign, Exponent, Number, Sequence, Hex, Letter, Character, Characters, String, Value, Member, Members, Elements, Text}
use Rattle.grammar_machine.proofs.Machine.{Symbol, just, one, spaces, literal, minus, whole, digits, fraction, exponent, sign, characters, escape, hex, value, in_object, after_member, in_array, after_element, Stack, Row, at, up_to, member_rest, a_member, an_element, a_number, a_text, tail, as_element, value_rows, Move, Push, Skip, Stuck, then_of, row_of, move_of, expand, settle, Fine, ends, verdict}
use Rattle.grammar_machine.proofs.Run.{eat, skip, jam, cut_off, skip-optional, Passes, pass, move-is}

-- ---- White space and literals
blank-row : {b : ℕ} → Blank b → expand spaces b ≡ Push (spaces ∷ [])
unfolding row_of
blank-row Blank.character_tabulation = refl
blank-row Blank.line_feed = refl
blank-row Blank.carriage_return = refl
blank-row Blank.space = refl

pub spaces-run : {l r : Bytes} → Spaces l r → (K : Stack) → verdict (spaces ∷ K) l ≡ verdict (spaces ∷ K) r
spaces-run Spaces.no_space K = refl
spaces-run (Spaces.one_more {b = b} {l = l} h s) K = eat spaces K b l (spaces ∷ []) (blank-row h) ∙ spaces-run s K

pub literal-run : {l r : Bytes} → Literal l r → (K : Stack) → verdict (literal ∷ K) l ≡ verdict K r
unfolding verdict settle row_of
literal-run Literal.is_true K = refl
literal-run Literal.is_false K = refl
literal-run Literal.is_null K = refl

literal-value : {l r : Bytes} → Literal l r → (K : Stack) → verdict (value ∷ K) l ≡ verdict K r
unfolding verdict settle row_of within
literal-value Literal.is_true K = refl
literal-value Literal.is_false K = refl
literal-value Literal.is_null K = refl

-- ---- Numbers
digit-row : {d : ℕ} → From 0x30 0x39 d → expand digits d ≡ Push (digits ∷ [])
unfolding row_of within
digit-row {d} h = move-is digits 0 0x30 9 refl d h

pub in-range : (lowest highest b : ℕ) → From lowest highest b → within lowest highest b ≡ true
unfolding within
in-range lowest highest b h = rw (le-leb lowest b h.0, le-leb b highest h.1)

pub outside : (lowest highest b : ℕ) → (From lowest highest b → ⊥) → within lowest highest b ≡ false
outside lowest highest b n = go (within lowest highest b) refl
  where
    go : (t : Bool) → within lowest highest b ≡ t → t ≡ false
    go true e = absurd (n (within-from lowest highest b e, within-to lowest highest b e))
    go false e = refl

pub one-row : (lowest more b : ℕ) → From lowest (lowest + more) b → expand (one lowest more) b ≡ Push []
unfolding row_of
one-row lowest more b h = rw (row_of, in-range lowest (lowest + more) b h)

digits-run : {l r : Bytes} → Digits l r → Passes digits r → (K : Stack) → verdict (digits ∷ K) l ≡ verdict K r
digits-run (Digits.last_digit {d = d} {r = r} h) p K = eat digits K d r (digits ∷ []) (digit-row h) ∙ pass digits K r p
digits-run (Digits.more_digits {d = d} {l = l} h s) p K = eat digits K d l (digits ∷ []) (digit-row h) ∙ digits-run s p K

-- at least one digit
some-run : {l r : Bytes} → Digits l r → Passes digits r → (K : Stack) → verdict (one 0x30 9 ∷ digits ∷ K) l ≡ verdict K r
some-run (Digits.last_digit {d = d} {r = r} h) p K =
    eat (one 0x30 9) (digits ∷ K) d r [] (one-row 0x30 9 d h) ∙ pass digits K r p
some-run (Digits.more_digits {d = d} {l = l} h s) p K =
    eat (one 0x30 9) (digits ∷ K) d l [] (one-row 0x30 9 d h) ∙ digits-run s p K

pub whole_row : {d : ℕ} → From 0x31 0x39 d → expand whole d ≡ Push (digits ∷ [])
unfolding row_of within
whole_row {d} h = move-is whole 1 0x31 8 refl d h

whole_run : {l r : Bytes} → Whole l r → Passes digits r → (K : Stack) → verdict (whole ∷ K) l ≡ verdict K r
unfolding row_of
whole_run (Whole.zero_alone {r = r}) p K = eat whole K 0x30 r [] refl
whole_run (Whole.no_zero_first h (Digits.last_digit {d = d} {r = r} i)) p K =
    eat whole K d r (digits ∷ []) (whole_row h) ∙ pass digits K r p
whole_run (Whole.no_zero_first h (Digits.more_digits {d = d} {l = l} i s)) p K =
    eat whole K d l (digits ∷ []) (whole_row h) ∙ digits-run s p K

-- a digit is passed over by what takes none
whole-passes : {l r : Bytes} → Whole l r → Passes minus l
unfolding row_of
whole-passes Whole.zero_alone = refl
whole-passes (Whole.no_zero_first {d = d} h s) = move-is minus 1 0x31 8 refl d h

digits-pass : {l r : Bytes} → Digits l r → Passes sign l
unfolding row_of
digits-pass (Digits.last_digit {d = d} h) = move-is sign 2 0x30 9 refl d h
digits-pass (Digits.more_digits {d = d} h s) = move-is sign 2 0x30 9 refl d h

minus-run : {l m n : Bytes} → Minus l m → Whole m n → (K : Stack) → verdict (minus ∷ K) l ≡ verdict K m
unfolding row_of
minus-run (Minus.no_minus {l = l}) w K = pass minus K l (whole-passes w)
minus-run (Minus.minus_sign {l = l}) w K = eat minus K 0x2D l [] refl

sign-run : {l m n : Bytes} → Sign l m → Digits m n → (K : Stack) → verdict (sign ∷ K) l ≡ verdict K m
unfolding row_of
sign-run (Sign.no_sign {l = l}) s K = pass sign K l (digits-pass s)
sign-run (Sign.plus_sign {l = l}) s K = eat sign K 0x2B l [] refl
sign-run (Sign.negative {l = l}) s K = eat sign K 0x2D l [] refl

fraction-run : {l r : Bytes} → Fraction l r → Passes fraction r → Passes digits r → (K : Stack) → verdict (fraction ∷ K) l ≡ verdict K r
unfolding row_of
fraction-run (Fraction.no_fraction {l = l}) p q K = pass fraction K l p
fraction-run (Fraction.decimal_point {l = l} s) p q K =
    eat fraction K 0x2E l (one 0x30 9 ∷ digits ∷ []) refl ∙ some-run s q K

exponent-run : {l r : Bytes} → Exponent l r → Passes exponent r → Passes digits r → (K : Stack) → verdict (exponent ∷ K) l ≡ verdict K r
unfolding row_of
exponent-run (Exponent.no_exponent {l = l}) p q K = pass exponent K l p
exponent-run (Exponent.lower_e {l = l} g s) p q K =
    eat exponent K 0x65 l (sign ∷ one 0x30 9 ∷ digits ∷ []) refl ∙ sign-run g s (one 0x30 9 ∷ digits ∷ K) ∙ some-run s q K
exponent-run (Exponent.upper_e {l = l} g s) p q K =
    eat exponent K 0x45 l (sign ∷ one 0x30 9 ∷ digits ∷ []) refl ∙ sign-run g s (one 0x30 9 ∷ digits ∷ K) ∙ some-run s q K

-- what is passed over behind a fraction or an exponent is so before it, if its first byte is
before-fraction : (k : Symbol) → expand k 0x2E ≡ Skip → {l r : Bytes} → Fraction l r → Passes k r → Passes k l
before-fraction k e Fraction.no_fraction p = p
before-fraction k e (Fraction.decimal_point s) p = e

before-exponent : (k : Symbol) → expand k 0x65 ≡ Skip → expand k 0x45 ≡ Skip → {l r : Bytes} → Exponent l r → Passes k r → Passes k l
before-exponent k e f Exponent.no_exponent p = p
before-exponent k e f (Exponent.lower_e g s) p = e
before-exponent k e f (Exponent.upper_e g s) p = f

-- nothing that could lengthen a number stands first
pub record Quiet (l : Bytes) : Type 0 where
  pub no_digit : Passes digits l
  pub no_point : Passes fraction l
  pub no_letter : Passes exponent l

pub number-run : {l r : Bytes} → Number l r → Quiet r → (K : Stack) → verdict (a_number ++ K) l ≡ verdict K r
unfolding row_of within
number-run (Number.parts {n = n} {o = o} {r = r} h i j k) q K =
    let point : Passes fraction o = before-exponent fraction refl refl k q.no_point in
    let late : Passes digits o = before-exponent digits refl refl k q.no_digit in
    let early : Passes digits n = before-fraction digits refl j late in
    minus-run h i (whole ∷ fraction ∷ exponent ∷ K)
    ∙ whole_run i early (fraction ∷ exponent ∷ K)
    ∙ fraction-run j point late (exponent ∷ K)
    ∙ exponent-run k q.no_letter q.no_digit K

-- ---- Strings
pub plain_row : {b : ℕ} → From 0x20 0x7F b → b ≢ 0x22 → b ≢ 0x5C → expand characters b ≡ Push (characters ∷ [])
unfolding row_of within
plain_row {b} h n m = go (dec_le b 0x21) (dec_le b 0x5B)
  where
    go : Dec (b ≤ 0x21) → Dec (b ≤ 0x5B) → expand characters b ≡ Push (characters ∷ [])
    go (yes i) j = move-is characters 2 0x20 0x1 refl b (omega arith)
    go (no i) (yes j) = move-is characters 3 0x23 0x38 refl b (omega arith)
    go (no i) (no j) = move-is characters 4 0x5D 0x22 refl b (omega arith)

-- a byte that begins a sequence, and the bytes behind it, of which the second may have a range of its own
byte-run : (lowest more b : ℕ) → From lowest (lowest + more) b → (K : Stack) (l : Bytes) → verdict (one lowest more ∷ K) (b ∷ l) ≡ verdict K l
byte-run lowest more b h K l = eat (one lowest more) K b l [] (one-row lowest more b h)

module _ (lowest more : ℕ) (a b c d : ℕ) (r : Bytes) (K : Stack) (i : From lowest (lowest + more) b) where
  two_run : expand characters a ≡ Push (one lowest more ∷ characters ∷ []) → verdict (characters ∷ K) (a ∷ b ∷ r) ≡ verdict (characters ∷ K) r
  two_run e =
      eat characters K a (b ∷ r) (one lowest more ∷ characters ∷ []) e ∙ byte-run lowest more b i (characters ∷ K) r

  three-run : expand characters a ≡ Push (one lowest more ∷ tail ∷ characters ∷ []) → Tail c → verdict (characters ∷ K) (a ∷ b ∷ c ∷ r) ≡ verdict (characters ∷ K) r
  three-run e j =
      eat characters K a (b ∷ c ∷ r) (one lowest more ∷ tail ∷ characters ∷ []) e
      ∙ byte-run lowest more b i (tail ∷ characters ∷ K) (c ∷ r)
      ∙ byte-run 0x80 0x3F c j (characters ∷ K) r

  four-run : expand characters a ≡ Push (one lowest more ∷ tail ∷ tail ∷ characters ∷ []) → Tail c → Tail d → verdict (characters ∷ K) (a ∷ b ∷ c ∷ d ∷ r) ≡ verdict (characters ∷ K) r
  four-run e j k =
      eat characters K a (b ∷ c ∷ d ∷ r) (one lowest more ∷ tail ∷ tail ∷ characters ∷ []) e
      ∙ byte-run lowest more b i (tail ∷ tail ∷ characters ∷ K) (c ∷ d ∷ r)
      ∙ byte-run 0x80 0x3F c j (tail ∷ characters ∷ K) (d ∷ r)
      ∙ byte-run 0x80 0x3F d k (characters ∷ K) r

sequence-run : {l r : Bytes} {c : ℕ} → Sequence l c r → (K : Stack) → verdict (characters ∷ K) l ≡ verdict (characters ∷ K) r
unfolding row_of within
sequence-run (Sequence.from_c2 {a = a} {b = b} {r = r} h i) K =
    two_run 0x80 0x3F a b 0 0 r K i (move-is characters 5 0xC2 0x1D refl a h)
sequence-run (Sequence.at_e0 {b = b} {c = c} {r = r} i j) K = three-run 0xA0 0x1F 0xE0 b c 0 r K i refl j
sequence-run (Sequence.from_e1 {a = a} {b = b} {c = c} {r = r} h i j) K =
    three-run 0x80 0x3F a b c 0 r K i (move-is characters 7 0xE1 0x0B refl a h) j
sequence-run (Sequence.at_ed {b = b} {c = c} {r = r} i j) K = three-run 0x80 0x1F 0xED b c 0 r K i refl j
sequence-run (Sequence.from_ee {a = a} {b = b} {c = c} {r = r} h i j) K =
    three-run 0x80 0x3F a b c 0 r K i (move-is characters 9 0xEE 0x01 refl a h) j
sequence-run (Sequence.at_f0 {b = b} {c = c} {d = d} {r = r} i j k) K = four-run 0x90 0x2F 0xF0 b c d r K i refl j k
sequence-run (Sequence.from_f1 {a = a} {b = b} {c = c} {d = d} {r = r} h i j k) K =
    four-run 0x80 0x3F a b c d r K i (move-is characters 11 0xF1 0x02 refl a h) j k
sequence-run (Sequence.at_f4 {b = b} {c = c} {d = d} {r = r} i j k) K = four-run 0x80 0x0F 0xF4 b c d r K i refl j k

hex-row : {b v : ℕ} → Hex b v → expand hex b ≡ Push []
unfolding row_of within
hex-row (Hex.decimal {b = b} h) = move-is hex 0 0x30 9 refl b h
hex-row (Hex.upper {b = b} h) = move-is hex 1 0x41 5 refl b h
hex-row (Hex.lower {b = b} h) = move-is hex 2 0x61 5 refl b h

letter-row : {b c : ℕ} → Letter b c → expand escape b ≡ Push []
unfolding row_of
letter-row Letter.quotation_mark = refl
letter-row Letter.reverse_solidus = refl
letter-row Letter.solidus = refl
letter-row Letter.backspace = refl
letter-row Letter.form_feed = refl
letter-row Letter.new_line = refl
letter-row Letter.return = refl
letter-row Letter.tab = refl

character-run : {l r : Bytes} {c : ℕ} → Character l c r → (K : Stack) → verdict (characters ∷ K) l ≡ verdict (characters ∷ K) r
unfolding row_of
character-run (Character.itself {b = b} {r = r} h n m) K = eat characters K b r (characters ∷ []) (plain_row h n m)
character-run (Character.sequence s) K = sequence-run s K
character-run (Character.letter {b = b} {r = r} h) K =
    eat characters K 0x5C (b ∷ r) (escape ∷ characters ∷ []) refl ∙ eat escape (characters ∷ K) b r [] (letter-row h)
character-run (Character.four_digits {a = a} {b = b} {c = c} {d = d} {r = r} h i j k) K =
    eat characters K 0x5C (0x75 ∷ a ∷ b ∷ c ∷ d ∷ r) (escape ∷ characters ∷ []) refl
    ∙ eat escape (characters ∷ K) 0x75 (a ∷ b ∷ c ∷ d ∷ r) (hex ∷ hex ∷ hex ∷ hex ∷ []) refl
    ∙ eat hex (hex ∷ hex ∷ hex ∷ characters ∷ K) a (b ∷ c ∷ d ∷ r) [] (hex-row h)
    ∙ eat hex (hex ∷ hex ∷ characters ∷ K) b (c ∷ d ∷ r) [] (hex-row i)
    ∙ eat hex (hex ∷ characters ∷ K) c (d ∷ r) [] (hex-row j)
    ∙ eat hex (characters ∷ K) d r [] (hex-row k)

characters-run : {l r : Bytes} {cs : List ℕ} → Characters l cs r → (K : Stack) → verdict (characters ∷ K) l ≡ verdict K r
unfolding row_of
characters-run (Characters.end_quote {r = r}) K = eat characters K 0x22 r [] refl
characters-run (Characters.char h s) K = character-run h K ∙ characters-run s K

pub string-run : {l r : Bytes} {cs : List ℕ} → String l cs r → (K : Stack) → verdict (just 0x22 ∷ characters ∷ K) l ≡ verdict K r
unfolding row_of
string-run (String.quoted {l = l} s) K = eat (just 0x22) (characters ∷ K) 0x22 l [] refl ∙ characters-run s K

-- ---- Values
-- what stands in the place of an element is a value and what follows it, unless it is the closing bracket
abbrev as_elements : Move → Move
as_elements (Push js) = Push (js ++ spaces ∷ after_element ∷ [])
as_elements Skip = Skip
as_elements Stuck = Stuck

element-then : (r : Row) → then_of (as_element r) ≡ then_of r ++ spaces ∷ after_element ∷ []
element-then (at a then) = refl
element-then (up_to lowest highest then) = refl

element-row : (rs : List Row) (b : ℕ) → row_of (map as_element rs) b ≡ row_of rs b
unfolding row_of
element-row [] b = refl
element-row (at a then ∷ rs) b = ap (λ (n : ℕ). elim (eqb b a) [ true ↦ 0 | false ↦ suc n ]) (element-row rs b)
element-row (up_to lowest highest then ∷ rs) b =
    ap (λ (n : ℕ). elim (within lowest highest b) [ true ↦ 0 | false ↦ suc n ]) (element-row rs b)

element-move : (rs : List Row) (i : ℕ) → move_of (map as_element rs) false i ≡ as_elements (move_of rs false i)
element-move [] i = refl
element-move (r ∷ rs) zero = ap Push (element-then r)
element-move (r ∷ rs) (suc i) = element-move rs i

element-expand : (b : ℕ) → b ≢ 0x5D → expand in_array b ≡ as_elements (expand value b)
unfolding row_of
element-expand b n = rw (row_of, ne_eqb b 0x5D n, element-row value_rows b) (element-move value_rows (row_of value_rows b))

abbrev pub OtherThan : ℕ → Bytes → Type 0
OtherThan a [] = Unit {0}
OtherThan a (b ∷ l) = b ≢ a

pub in-array : (K : Stack) (l : Bytes) → OtherThan 0x5D l → verdict (in_array ∷ K) l ≡ verdict (an_element ++ K) l
in-array K [] n = cut_off in_array K refl ∙ sym (cut_off value (spaces ∷ after_element ∷ K) refl)
in-array K (b ∷ l) n = go (expand value b) refl (element-expand b n)
  where
    go : (m : Move) → expand value b ≡ m → expand in_array b ≡ as_elements (expand value b) → verdict (in_array ∷ K) (b ∷ l) ≡ verdict (an_element ++ K) (b ∷ l)
    go (Push js) h e =
        eat in_array K b l (js ++ spaces ∷ after_element ∷ []) (e ∙ ap as_elements h)
        ∙ ap (λ (L : Stack). verdict L l) (append_assoc js (spaces ∷ after_element ∷ []) K)
        ∙ sym (eat value (spaces ∷ after_element ∷ K) b l js h)
    go Skip h e =
        skip in_array K b l (e ∙ ap as_elements h)
        ∙ absurd (let z : false ≡ true = skip-optional value b h in let y : ◌≡◌ {A = ℕ} 0 1 = cc in omega arith)
    go Stuck h e =
        jam in_array K b l (e ∙ ap as_elements h) ∙ sym (jam value (spaces ∷ after_element ∷ K) b l h)

-- the moves at a byte that is, or is not, the one of an `at`
pub just-row : (a b : ℕ) → b ≡ a → expand (just a) b ≡ Push []
unfolding row_of
just-row a b e = rw (row_of, eq-eqb b a e)

pub just-stuck : (a b : ℕ) → b ≢ a → expand (just a) b ≡ Stuck
unfolding row_of
just-stuck a b n = rw (row_of, ne_eqb b a n)

-- and in the place of a member a quote, unless it is the closing brace
pub in-object : (K : Stack) (l : Bytes) → OtherThan 0x7D l → verdict (in_object ∷ K) l ≡ verdict (a_member ++ K) l
unfolding row_of
in-object K [] n = cut_off in_object K refl ∙ sym (cut_off (just 0x22) _ refl)
in-object K (b ∷ l) n = go (ℕ_discrete b 0x22)
  where
    go : Dec (b ≡ 0x22) → verdict (in_object ∷ K) (b ∷ l) ≡ verdict (a_member ++ K) (b ∷ l)
    go (yes e) =
        rw e (eat in_object K 0x22 l (characters ∷ member_rest) refl
        ∙ sym (eat (just 0x22) (characters ∷ member_rest ++ K) 0x22 l [] refl))
    go (no o) =
        jam in_object K b l (rw (row_of, ne_eqb b 0x7D n, ne_eqb b 0x22 o))
        ∙ sym (jam (just 0x22) (characters ∷ member_rest ++ K) b l (just-stuck 0x22 b o))

-- a number as a value
pub value-number : (K : Stack) (b : ℕ) (l : Bytes) → (b ≡ 0x2D) ⊎ From 0x30 0x39 b → verdict (value ∷ K) (b ∷ l) ≡ verdict (a_number ++ K) (b ∷ l)
unfolding row_of within
value-number K b l (inl e) =
    rw e (eat value K 0x2D l (whole ∷ fraction ∷ exponent ∷ []) refl ∙ sym (eat minus (whole ∷ fraction ∷ exponent ∷ K) 0x2D l [] refl))
value-number K b l (inr h) = go (ℕ_discrete b 0x30)
  where
    go : Dec (b ≡ 0x30) → verdict (value ∷ K) (b ∷ l) ≡ verdict (a_number ++ K) (b ∷ l)
    go (yes e) =
        rw e (eat value K 0x30 l (fraction ∷ exponent ∷ []) refl
        ∙ sym (skip minus (whole ∷ fraction ∷ exponent ∷ K) 0x30 l refl ∙ eat whole (fraction ∷ exponent ∷ K) 0x30 l [] refl))
    go (no n) =
        eat value K b l (digits ∷ fraction ∷ exponent ∷ []) (move-is value 3 0x31 8 refl b (omega arith))
        ∙ sym (skip minus (whole ∷ fraction ∷ exponent ∷ K) b l (move-is minus 1 0x31 8 refl b (omega arith))
        ∙ eat whole (fraction ∷ exponent ∷ K) b l (digits ∷ []) (whole_row {d = b} (omega arith)))

-- a value or a member begins with a byte that is no space and closes nothing
pub data Solid : Bytes → Type 0 where
  solid : (b : ℕ) {l : Bytes} → expand spaces b ≡ Skip → b ≢ 0x5D → b ≢ 0x7D → Solid (b ∷ l)

literal-solid : {l r : Bytes} → Literal l r → Solid l
unfolding row_of
literal-solid Literal.is_true = solid 0x74 refl (omega arith) (omega arith)
literal-solid Literal.is_false = solid 0x66 refl (omega arith) (omega arith)
literal-solid Literal.is_null = solid 0x6E refl (omega arith) (omega arith)

number-solid : {l r : Bytes} → Number l r → Solid l
unfolding row_of
number-solid (Number.parts Minus.minus_sign i j k) = solid 0x2D refl (omega arith) (omega arith)
number-solid (Number.parts Minus.no_minus Whole.zero_alone j k) = solid 0x30 refl (omega arith) (omega arith)
number-solid (Number.parts Minus.no_minus (Whole.no_zero_first {d = d} h s) j k) =
    solid d (move-is spaces 4 0x31 8 refl d h) (omega arith) (omega arith)

pub value-solid : {l r : Bytes} → Value l r → Solid l
unfolding row_of
value-solid (Value.literal h) = literal-solid h
value-solid (Value.number h) = number-solid h
value-solid (Value.string (String.quoted h)) = solid 0x22 refl (omega arith) (omega arith)
value-solid (Value.no_members s) = solid 0x7B refl (omega arith) (omega arith)
value-solid (Value.object s n) = solid 0x7B refl (omega arith) (omega arith)
value-solid (Value.no_elements s) = solid 0x5B refl (omega arith) (omega arith)
value-solid (Value.array s n) = solid 0x5B refl (omega arith) (omega arith)

member-solid : {l r : Bytes} → Member l r → Solid l
unfolding row_of
member-solid (Member.named (String.quoted h) i j v) = solid 0x22 refl (omega arith) (omega arith)

pub members-solid : {l r : Bytes} → Members l r → Solid l
members-solid (Members.last_member n s) = member-solid n
members-solid (Members.more_members n s t ns) = member-solid n

pub elements-solid : {l r : Bytes} → Elements l r → Solid l
elements-solid (Elements.last_element v s) = value-solid v
elements-solid (Elements.more_elements v s t vs) = value-solid v

-- so spaces before it are passed over
pub solid-run : {l : Bytes} → Solid l → (K : Stack) → verdict (spaces ∷ K) l ≡ verdict K l
solid-run (solid b {l = l} e n m) K = skip spaces K b l e

no-bracket : {l : Bytes} → Solid l → OtherThan 0x5D l
no-bracket (solid b e n m) = n

no-brace : {l : Bytes} → Solid l → OtherThan 0x7D l
no-brace (solid b e n m) = m

-- ---- what follows a value does not lengthen it
pub spaces-quiet : {l r : Bytes} → Spaces l r → Quiet r → Quiet l
unfolding row_of within
spaces-quiet Spaces.no_space q = q
spaces-quiet (Spaces.one_more Blank.character_tabulation s) q = record { no_digit = refl; no_point = refl; no_letter = refl }
spaces-quiet (Spaces.one_more Blank.line_feed s) q = record { no_digit = refl; no_point = refl; no_letter = refl }
spaces-quiet (Spaces.one_more Blank.carriage_return s) q = record { no_digit = refl; no_point = refl; no_letter = refl }
spaces-quiet (Spaces.one_more Blank.space s) q = record { no_digit = refl; no_point = refl; no_letter = refl }

pub quiet-end : Quiet []
quiet-end = record { no_digit = refl; no_point = refl; no_letter = refl }

pub quiet-comma : {l : Bytes} → Quiet (0x2C ∷ l)
unfolding row_of within
quiet-comma = record { no_digit = refl; no_point = refl; no_letter = refl }

pub quiet-bracket : {l : Bytes} → Quiet (0x5D ∷ l)
unfolding row_of within
quiet-bracket = record { no_digit = refl; no_point = refl; no_letter = refl }

pub quiet-brace : {l : Bytes} → Quiet (0x7D ∷ l)
unfolding row_of within
quiet-brace = record { no_digit = refl; no_point = refl; no_letter = refl }

-- ---- Values, members and elements, to any depth
number-value : {l r : Bytes} → Number l r → (K : Stack) → verdict (value ∷ K) l ≡ verdict (a_number ++ K) l
number-value (Number.parts (Minus.minus_sign {l = l}) i j k) K = value-number K 0x2D l (inl refl)
number-value (Number.parts Minus.no_minus (Whole.zero_alone {r = r}) j k) K = value-number K 0x30 r (inr (omega arith))
number-value (Number.parts Minus.no_minus (Whole.no_zero_first {d = d} {l = l} h s) j k) K = value-number K d l (inr (omega arith))

mutual
  unfolding row_of within

  pub value-run : {l r : Bytes} → Value l r → Quiet r → (K : Stack) → verdict (value ∷ K) l ≡ verdict K r
  value-run (Value.literal h) q K = literal-value h K
  value-run (Value.number h) q K = number-value h K ∙ number-run h q K
  value-run (Value.string (String.quoted {l = l} s)) q K = eat value K 0x22 l (characters ∷ []) refl ∙ characters-run s K
  value-run (Value.no_members {l = l} {r = r} s) q K =
      eat value K 0x7B l (spaces ∷ in_object ∷ []) refl
      ∙ spaces-run s (in_object ∷ K)
      ∙ skip spaces (in_object ∷ K) 0x7D r refl
      ∙ eat in_object K 0x7D r [] refl
  value-run (Value.object {l = l} {m = m} s n) q K =
      eat value K 0x7B l (spaces ∷ in_object ∷ []) refl
      ∙ spaces-run s (in_object ∷ K)
      ∙ solid-run (members-solid n) (in_object ∷ K)
      ∙ in-object K m (no-brace (members-solid n))
      ∙ members_run n K
  value-run (Value.no_elements {l = l} {r = r} s) q K =
      eat value K 0x5B l (spaces ∷ in_array ∷ []) refl
      ∙ spaces-run s (in_array ∷ K)
      ∙ skip spaces (in_array ∷ K) 0x5D r refl
      ∙ eat in_array K 0x5D r [] refl
  value-run (Value.array {l = l} {m = m} s n) q K =
      eat value K 0x5B l (spaces ∷ in_array ∷ []) refl
      ∙ spaces-run s (in_array ∷ K)
      ∙ solid-run (elements-solid n) (in_array ∷ K)
      ∙ in-array K m (no-bracket (elements-solid n))
      ∙ elements-run n K

  pub member-run : {l r : Bytes} → Member l r → Quiet r → (K : Stack) → verdict (just 0x22 ∷ characters ∷ spaces ∷ just 0x3A ∷ spaces ∷ value ∷ K) l ≡ verdict K r
  member-run (Member.named {n = n} h i j v) q K =
      string-run h (spaces ∷ just 0x3A ∷ spaces ∷ value ∷ K)
      ∙ spaces-run i (just 0x3A ∷ spaces ∷ value ∷ K)
      ∙ skip spaces (just 0x3A ∷ spaces ∷ value ∷ K) 0x3A n refl
      ∙ eat (just 0x3A) (spaces ∷ value ∷ K) 0x3A n [] refl
      ∙ spaces-run j (value ∷ K)
      ∙ solid-run (value-solid v) (value ∷ K)
      ∙ value-run v q K

  pub members_run : {l r : Bytes} → Members l r → (K : Stack) → verdict (a_member ++ K) l ≡ verdict K r
  members_run (Members.last_member {r = r} n s) K =
      member-run n (spaces-quiet s quiet-brace) (spaces ∷ after_member ∷ K)
      ∙ spaces-run s (after_member ∷ K)
      ∙ skip spaces (after_member ∷ K) 0x7D r refl
      ∙ eat after_member K 0x7D r [] refl
  members_run (Members.more_members {n = l} n s t ns) K =
      member-run n (spaces-quiet s quiet-comma) (spaces ∷ after_member ∷ K)
      ∙ spaces-run s (after_member ∷ K)
      ∙ skip spaces (after_member ∷ K) 0x2C l refl
      ∙ eat after_member K 0x2C l (spaces ∷ a_member) refl
      ∙ spaces-run t (a_member ++ K)
      ∙ solid-run (members-solid ns) (a_member ++ K)
      ∙ members_run ns K

  pub elements-run : {l r : Bytes} → Elements l r → (K : Stack) → verdict (an_element ++ K) l ≡ verdict K r
  elements-run (Elements.last_element {r = r} v s) K =
      value-run v (spaces-quiet s quiet-bracket) (spaces ∷ after_element ∷ K)
      ∙ spaces-run s (after_element ∷ K)
      ∙ skip spaces (after_element ∷ K) 0x5D r refl
      ∙ eat after_element K 0x5D r [] refl
  elements-run (Elements.more_elements {n = l} v s t vs) K =
      value-run v (spaces-quiet s quiet-comma) (spaces ∷ after_element ∷ K)
      ∙ spaces-run s (after_element ∷ K)
      ∙ skip spaces (after_element ∷ K) 0x2C l refl
      ∙ eat after_element K 0x2C l (spaces ∷ an_element) refl
      ∙ spaces-run t (an_element ++ K)
      ∙ solid-run (elements-solid vs) (an_element ++ K)
      ∙ elements-run vs K

pub text-run : {l : Bytes} → Text l → verdict a_text l ≡ Fine
unfolding verdict ends
text-run (Text.text s v t) =
    spaces-run s (value ∷ spaces ∷ [])
    ∙ solid-run (value-solid v) (value ∷ spaces ∷ [])
    ∙ value-run v (spaces-quiet t quiet-end) (spaces ∷ [])
    ∙ spaces-run t []
