-- Whatever follows a token of the grammar, it is one still.
-- Assumes nothing.
use Prim.Native.Nat.{ℕ}
use mathlib.Core.List.{List, ◌++◌}
use Rattle.grammar.specs.Grammar.{Bytes, Spaces, Literal, Digits, Whole, Minus, Fraction, Sign, Exponent, Number, Sequence, Character, Characters, String}

-- ---- Spaces and literals
pub spaces-more : {l r : Bytes} → Spaces l r → (x : Bytes) → Spaces (l ++ x) (r ++ x)
spaces-more Spaces.no_space x = Spaces.no_space
spaces-more (Spaces.one_more h s) x = Spaces.one_more h (spaces-more s x)

pub literal-more : {l r : Bytes} → Literal l r → (x : Bytes) → Literal (l ++ x) (r ++ x)
literal-more Literal.is_true x = Literal.is_true
literal-more Literal.is_false x = Literal.is_false
literal-more Literal.is_null x = Literal.is_null

-- ---- Numbers
digits_more : {l r : Bytes} → Digits l r → (x : Bytes) → Digits (l ++ x) (r ++ x)
digits_more (Digits.last_digit h) x = Digits.last_digit h
digits_more (Digits.more_digits h s) x = Digits.more_digits h (digits_more s x)

whole-more : {l r : Bytes} → Whole l r → (x : Bytes) → Whole (l ++ x) (r ++ x)
whole-more Whole.zero_alone x = Whole.zero_alone
whole-more (Whole.no_zero_first h s) x = Whole.no_zero_first h (digits_more s x)

minus-more : {l r : Bytes} → Minus l r → (x : Bytes) → Minus (l ++ x) (r ++ x)
minus-more Minus.no_minus x = Minus.no_minus
minus-more Minus.minus_sign x = Minus.minus_sign

fraction-more : {l r : Bytes} → Fraction l r → (x : Bytes) → Fraction (l ++ x) (r ++ x)
fraction-more Fraction.no_fraction x = Fraction.no_fraction
fraction-more (Fraction.decimal_point s) x = Fraction.decimal_point (digits_more s x)

sign-more : {l r : Bytes} → Sign l r → (x : Bytes) → Sign (l ++ x) (r ++ x)
sign-more Sign.no_sign x = Sign.no_sign
sign-more Sign.plus_sign x = Sign.plus_sign
sign-more Sign.negative x = Sign.negative

exponent-more : {l r : Bytes} → Exponent l r → (x : Bytes) → Exponent (l ++ x) (r ++ x)
exponent-more Exponent.no_exponent x = Exponent.no_exponent
exponent-more (Exponent.lower_e g s) x = Exponent.lower_e (sign-more g x) (digits_more s x)
exponent-more (Exponent.upper_e g s) x = Exponent.upper_e (sign-more g x) (digits_more s x)

pub number_more : {l r : Bytes} → Number l r → (x : Bytes) → Number (l ++ x) (r ++ x)
number_more (Number.parts h i j k) x =
    Number.parts (minus-more h x) (whole-more i x) (fraction-more j x) (exponent-more k x)

-- ---- Strings
sequence-more : {l r : Bytes} {c : ℕ} → Sequence l c r → (x : Bytes) → Sequence (l ++ x) c (r ++ x)
sequence-more (Sequence.from_c2 h i) x = Sequence.from_c2 h i
sequence-more (Sequence.at_e0 i j) x = Sequence.at_e0 i j
sequence-more (Sequence.from_e1 h i j) x = Sequence.from_e1 h i j
sequence-more (Sequence.at_ed i j) x = Sequence.at_ed i j
sequence-more (Sequence.from_ee h i j) x = Sequence.from_ee h i j
sequence-more (Sequence.at_f0 i j k) x = Sequence.at_f0 i j k
sequence-more (Sequence.from_f1 h i j k) x = Sequence.from_f1 h i j k
sequence-more (Sequence.at_f4 i j k) x = Sequence.at_f4 i j k

pub character-more : {l r : Bytes} {c : ℕ} → Character l c r → (x : Bytes) → Character (l ++ x) c (r ++ x)
character-more (Character.itself h n m) x = Character.itself h n m
character-more (Character.sequence q) x = Character.sequence (sequence-more q x)
character-more (Character.letter h) x = Character.letter h
character-more (Character.four_digits h i j k) x = Character.four_digits h i j k

characters-more : {l r : Bytes} {cs : List ℕ} → Characters l cs r → (x : Bytes) → Characters (l ++ x) cs (r ++ x)
characters-more Characters.end_quote x = Characters.end_quote
characters-more (Characters.char h t) x = Characters.char (character-more h x) (characters-more t x)

pub string-more : {l r : Bytes} {cs : List ℕ} → String l cs r → (x : Bytes) → String (l ++ x) cs (r ++ x)
string-more (String.quoted t) x = String.quoted (characters-more t x)
