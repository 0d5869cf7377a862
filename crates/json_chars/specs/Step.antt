-- One character of a JSON string, where it stands as written: its code and the place behind it; or the closing
-- quote; or the fault of document 01, "Marks 0 to 19", kind 10 or 11, with its place.
-- Sources: ECMA-404, section 9 (strings); the Unicode Standard, table 3-7 (well-formed UTF-8 byte sequences).
use Rattle.std.specs.Prelude.{ℕ, ◌+◌, ◌*◌, ◌-◌, ◌%◌, Bool, cond, ◌&&◌, List, ltb, eqb, Result, Ok, Err}
use Rattle.json_bytes.specs.Reads.{byte_at, within}
use Rattle.json_chars.specs.declared.Step.{Step}
use Rattle.json_chars.specs.declared.Step.TheVariants.{Char, Close, Bad}

-- ---- UTF-8, over a sequence's bytes a, b, c, d. The first says how many there are and in which range the second lies;
-- the others lie in 80–BF.
unfoldable pub second : ℕ → ℕ → Bool
second a b = within (cond (eqb a 0xE0) 0xA0 (cond (eqb a 0xF0) 0x90 0x80)) (cond (eqb a 0xED) 0x9F (cond (eqb a 0xF4) 0x8F 0xBF)) b

unfoldable pub is_two : ℕ → ℕ → Bool
is_two a b = within 0xC2 0xDF a && second a b

unfoldable pub is_three : ℕ → ℕ → ℕ → Bool
is_three a b c = within 0xE0 0xEF a && (second a b && within 0x80 0xBF c)

unfoldable pub is_four : ℕ → ℕ → ℕ → ℕ → Bool
is_four a b c d = within 0xF0 0xF4 a && (second a b && (within 0x80 0xBF c && within 0x80 0xBF d))

-- the code is made of the low bits of the bytes; an ill-formed sequence is 10 at its first byte
unfoldable pub sequence_of : ℕ → ℕ → ℕ → ℕ → ℕ → Step
sequence_of i a b c d =
    cond (is_two a b) (Char (a % 32 * 64 + b % 64) (i + 2))
    (cond (is_three a b c) (Char (a % 16 * 4096 + b % 64 * 64 + c % 64) (i + 3))
    (cond (is_four a b c d) (Char (a % 8 * 262144 + b % 64 * 4096 + c % 64 * 64 + d % 64) (i + 4)) (Bad 10 i)))

-- past the end of the file the bytes are 0, so that a sequence which is cut off is ill-formed
unfoldable pub sequence_at : List ℕ → ℕ → Step
sequence_at s i = sequence_of i (byte_at s i) (byte_at s (i + 1)) (byte_at s (i + 2)) (byte_at s (i + 3))

-- ---- Escapes
-- the character that one letter behind the backslash stands for; 0 for a letter that may not stand there
unfoldable pub letter_escape : ℕ → ℕ
letter_escape b =
    cond (eqb b 34) 34 (cond (eqb b 92) 92 (cond (eqb b 47) 47 (cond (eqb b 98) 8
    (cond (eqb b 102) 12 (cond (eqb b 110) 10 (cond (eqb b 114) 13 (cond (eqb b 116) 9 0)))))))

-- a hexadecimal digit's value; 16 for any other byte
unfoldable pub hex_digit : ℕ → ℕ
hex_digit b =
    cond (within 48 57 b) (b - 48) (cond (within 65 70 b) (b - 55) (cond (within 97 102 b) (b - 87) 16))

-- the value of the digit at a place
unfoldable pub digit_at : List ℕ → ℕ → ℕ
digit_at s i = hex_digit (byte_at s i)

-- a unit of sixteen bits, or the place that stands for none
abbrev pub Unit16 : Type 0
Unit16 = Result ℕ ℕ

-- four hexadecimal digits from a place on: their number, or the first place that holds none
unfoldable pub unit_at : List ℕ → ℕ → Unit16
unit_at s i =
    cond (ltb (digit_at s i) 16)
    (cond (ltb (digit_at s (i + 1)) 16)
    (cond (ltb (digit_at s (i + 2)) 16)
    (cond (ltb (digit_at s (i + 3)) 16)
    (Ok (digit_at s i * 4096 + digit_at s (i + 1) * 256 + digit_at s (i + 2) * 16 + digit_at s (i + 3)))
    (Err (i + 3)))
    (Err (i + 2)))
    (Err (i + 1)))
    (Err i)

-- the unit that an escape of four digits at a place stands for; 0 where none stands there whole
unfoldable pub unit_of : Unit16 → ℕ
unit_of (Ok u) = u
unit_of (Err p) = 0

unfoldable pub escaped_at : List ℕ → ℕ → ℕ
escaped_at s i = cond (eqb (byte_at s i) 92) (cond (eqb (byte_at s (i + 1)) 117) (unit_of (unit_at s (i + 2))) 0) 0

-- a high surrogate and the low one right behind it are one character; any other unit stands for itself, so that a
-- code from D800 to DFFF is an unpaired surrogate escape and nothing else
unfoldable pub is_pair : ℕ → ℕ → Bool
is_pair high low = within 0xD800 0xDBFF high && within 0xDC00 0xDFFF low

unfoldable pub surrogates_joined : List ℕ → ℕ → Unit16 → Step
surrogates_joined s i (Err p) = Bad 11 p
surrogates_joined s i (Ok u) =
    cond (is_pair u (escaped_at s (i + 6))) (Char (0x10000 + (u - 0xD800) * 1024 + (escaped_at s (i + 6) - 0xDC00)) (i + 12)) (Char u (i + 6))

-- an escape, its backslash at i
unfoldable pub escape_at : List ℕ → ℕ → Step
escape_at s i =
    cond (eqb (byte_at s (i + 1)) 117) (surrogates_joined s i (unit_at s (i + 2)))
    (cond (ltb 0 (letter_escape (byte_at s (i + 1)))) (Char (letter_escape (byte_at s (i + 1))) (i + 2)) (Bad 11 (i + 1)))

-- ---- What stands at a place inside a string. Past the end the byte is 0: the file is cut off there, which is 11 at its length.
unfoldable pub step_at : List ℕ → ℕ → Step
step_at s i =
    cond (ltb (byte_at s i) 32) (Bad 11 i)
    (cond (eqb (byte_at s i) 34) Close
    (cond (eqb (byte_at s i) 92) (escape_at s i) (cond (ltb (byte_at s i) 128) (Char (byte_at s i) (i + 1)) (sequence_at s i))))
