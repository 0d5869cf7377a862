-- The values of JSON that a field may have are well-formed UTF-8, so that a value is shown whole or cut between two characters.
-- Assumes nothing.
use Prim.Native.Nat.{ℕ, ◌≤◌}
use mathlib.Core.Path.{◌≡◌}
use mathlib.Core.Bool.{true}
use mathlib.Core.List.{List, [], ◌∷◌}
use native.Mathlib.Omega.{arith}
use Rattle.json_bytes.specs.Reads.{byte_at}
use Rattle.text_place.specs.Place.{is_character}
use Rattle.cut_value.specs.Cut.{cut_length}
use Rattle.grammar.specs.Grammar.{Bytes, Digits, Whole, Minus, Fraction, Sign, Exponent, Number, Letter, Hex, Character, Characters, String}
use Rattle.cut_meaning.specs.WellFormed.{WellFormed}
use Rattle.cut_meaning.proofs.Whole.{cut-between}

plain : (b : ℕ) {r : Bytes} → b ≤ 0x7F → WellFormed r → WellFormed (b ∷ r)
plain b h more = WellFormed.single {b = b} (omega arith, h) more

-- ---- strings
letter-low : {b c : ℕ} → Letter b c → b ≤ 0x7F
letter-low Letter.quotation_mark = omega arith
letter-low Letter.reverse_solidus = omega arith
letter-low Letter.solidus = omega arith
letter-low Letter.backspace = omega arith
letter-low Letter.form_feed = omega arith
letter-low Letter.new_line = omega arith
letter-low Letter.return = omega arith
letter-low Letter.tab = omega arith

hex-low : {b c : ℕ} → Hex b c → b ≤ 0x7F
hex-low (Hex.decimal h) = omega arith
hex-low (Hex.upper h) = omega arith
hex-low (Hex.lower h) = omega arith

character-well : {l r : Bytes} {c : ℕ} → Character l c r → WellFormed r → WellFormed l
character-well (Character.itself {b} h p q) more = plain b h.1 more
character-well (Character.sequence s) more = WellFormed.several s more
character-well (Character.letter {b} x) more = plain 0x5C (omega arith) (plain b (letter-low x) more)
character-well (Character.four_digits {a} {b} {c} {d} w x y z) more =
    plain 0x5C (omega arith) (plain 0x75 (omega arith) (plain a (hex-low w) (plain b (hex-low x) (plain c (hex-low y) (plain d (hex-low z) more)))))

characters-well : {l r : Bytes} {cs : List ℕ} → Characters l cs r → WellFormed r → WellFormed l
characters-well Characters.end_quote more = plain 0x22 (omega arith) more
characters-well (Characters.char x xs) more = character-well x (characters-well xs more)

pub string-cut : (value : Bytes) {cs : List ℕ} → String value cs [] → is_character (byte_at value (cut_length value)) ≡ true
string-cut value (String.quoted xs) = cut-between value (plain 0x22 (omega arith) (characters-well xs WellFormed.nothing))

-- ---- numbers
digits-well : {l r : Bytes} → Digits l r → WellFormed r → WellFormed l
digits-well (Digits.last_digit {d} h) more = plain d (omega arith) more
digits-well (Digits.more_digits {d} h ds) more = plain d (omega arith) (digits-well ds more)

whole-well : {l r : Bytes} → Whole l r → WellFormed r → WellFormed l
whole-well Whole.zero_alone more = plain 0x30 (omega arith) more
whole-well (Whole.no_zero_first h ds) more = digits-well ds more

minus-well : {l r : Bytes} → Minus l r → WellFormed r → WellFormed l
minus-well Minus.no_minus more = more
minus-well Minus.minus_sign more = plain 0x2D (omega arith) more

fraction-well : {l r : Bytes} → Fraction l r → WellFormed r → WellFormed l
fraction-well Fraction.no_fraction more = more
fraction-well (Fraction.decimal_point ds) more = plain 0x2E (omega arith) (digits-well ds more)

sign-well : {l r : Bytes} → Sign l r → WellFormed r → WellFormed l
sign-well Sign.no_sign more = more
sign-well Sign.plus_sign more = plain 0x2B (omega arith) more
sign-well Sign.negative more = plain 0x2D (omega arith) more

exponent-well : {l r : Bytes} → Exponent l r → WellFormed r → WellFormed l
exponent-well Exponent.no_exponent more = more
exponent-well (Exponent.lower_e s ds) more = plain 0x65 (omega arith) (sign-well s (digits-well ds more))
exponent-well (Exponent.upper_e s ds) more = plain 0x45 (omega arith) (sign-well s (digits-well ds more))

pub number_cut : (value : Bytes) → Number value [] → is_character (byte_at value (cut_length value)) ≡ true
number_cut value (Number.parts m w f e) =
    cut-between value (minus-well m (whole-well w (fraction-well f (exponent-well e WellFormed.nothing))))
