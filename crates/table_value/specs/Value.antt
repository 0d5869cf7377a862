-- A value in a field of a type, document 01, "Marks 0 to 19": "A string, number or literal is read whole, then judged; an
-- array or object where none belongs is judged at its opening byte."
-- No value but null belongs in a field of a number that is no type's.
use Rattle.std.specs.Prelude.{ℕ, ◌+◌, Bool, cond, ◌||◌, List, ltb, eqb, Ok, Err, Some, None}
use Rattle.json_bytes.specs.Reads.{byte_at, within, literal_at, Reading, fault_at}
use Rattle.json_chars.specs.Chars.{chars_at}
use Rattle.json_text.specs.Text.{text_read_at, text_read}
use Rattle.json_text.specs.declared.TextType.{TextType}
use Rattle.json_text.specs.declared.TextType.TheVariants.{Text, String, StringID}
use Rattle.json_text.specs.declared.Wrong.{Wrong}
use Rattle.json_text.specs.declared.TextRead.{TextRead}
use Rattle.json_number.specs.Number.{number_at, integer_of}
use Rattle.json_number.specs.declared.Number.{Number}
use Rattle.json_number.specs.declared.Value.{Value}
use Rattle.json_number.specs.declared.Value.TheVariants.{Fits, Beyond}
use Rattle.json_number.specs.declared.Integer.{Integer}
use Rattle.json_number.specs.declared.Integer.TheVariants.{Is, Fraction, TooLarge}
use Rattle.json_date.specs.Date.{Date, date_of}
use Rattle.table_rows.specs.Types.{boolean, date, decimal_type, integer, string, string_id, text}
use Rattle.table_value.specs.declared.ValueRead.{ValueRead}
use Rattle.table_value.specs.declared.ValueRead.TheVariants.{Held, Null, Bad}

-- ---- A string
unfoldable pub text_type : ℕ → TextType
text_type ty = cond (eqb ty string) String (cond (eqb ty string_id) StringID Text)

-- A string rule broken, document 02, order 4: "30 barred control, 31 whitespace, 32 outside the ID set, 33 unpaired
-- surrogate. Place becomes the first byte of the first wrong character as written". The empty string, its two quotes
-- alone, is null.
unfoldable pub text_held : ℕ → ℕ → Wrong → ValueRead
text_held at end wrong =
    cond (ltb 0 wrong.rule) (Bad (29 + wrong.rule) wrong.place) (cond (eqb end (at + 2)) (Null end) (Held end))

-- 17: not a valid date, at the opening quote; the empty string too
unfoldable pub date_held : ℕ → ℕ → Date → ValueRead
date_held at end (Some day) = Held end
date_held at end None = Bad 17 at

-- String, StringID and Text are numbered one behind the other; a string read whole in a field of another JSON kind is 15,
-- whatever its characters
unfoldable pub string_in : List ℕ → ℕ → ℕ → ℕ → Wrong → ValueRead
string_in s at ty end wrong =
    cond (within string text ty) (text_held at end wrong) (cond (eqb ty date) (date_held at end (date_of (chars_at s at))) (Bad 15 at))

unfoldable pub string_value : List ℕ → ℕ → ℕ → TextRead → ValueRead
string_value s at ty t =
    elim t.reading [ Ok end ↦ string_in s at ty end t.wrong | Err e ↦ Bad e.kind e.place ]

-- ---- A number: 18 outside the limits, 34 for an Integer that isn't whole (document 02, order 4), each at its first byte
unfoldable pub decimal_held : ℕ → ℕ → Value → ValueRead
decimal_held at end (Fits negative c p15) = Held end
decimal_held at end Beyond = Bad 18 at

unfoldable pub integer_held : ℕ → ℕ → Integer → ValueRead
integer_held at end (Is negative magnitude) = Held end
integer_held at end Fraction = Bad 34 at
integer_held at end TooLarge = Bad 18 at

unfoldable pub number_in : ℕ → ℕ → ℕ → Value → ValueRead
number_in at ty end v =
    cond (eqb ty decimal_type) (decimal_held at end v) (cond (eqb ty integer) (integer_held at end (integer_of v)) (Bad 15 at))

unfoldable pub number_value : ℕ → ℕ → Number → ValueRead
number_value at ty n =
    elim n.reading [ Ok end ↦ number_in at ty end n.value | Err e ↦ Bad e.kind e.place ]

-- ---- A literal: null belongs in every type, true and false in a Boolean. A byte that begins no value is 11 here.
unfoldable pub literal_in : List ℕ → ℕ → ℕ → ℕ → ValueRead
literal_in s at ty end = cond (eqb (byte_at s at) 110) (Null end) (cond (eqb ty boolean) (Held end) (Bad 15 at))

unfoldable pub literal_value : List ℕ → ℕ → ℕ → Reading → ValueRead
literal_value s at ty (Ok end) = literal_in s at ty end
literal_value s at ty (Err e) = Bad e.kind e.place

-- ---- The value at a place: its first byte says what it is
unfoldable pub starts_number : ℕ → Bool
starts_number b = eqb b 45 || within 48 57 b

unfoldable pub opens : ℕ → Bool
opens b = eqb b 91 || eqb b 123

unfoldable pub value_at : List ℕ → ℕ → ℕ → ValueRead
value_at s at ty =
    cond (eqb (byte_at s at) 34) (string_value s at ty (text_read (text_type ty) s at))
    (cond (starts_number (byte_at s at)) (number_value at ty (number_at s at))
    (cond (opens (byte_at s at)) (Bad 15 at) (literal_value s at ty (literal_at s at))))

-- ---- 12: a value that is no object where one belongs, at its first byte
-- a string, a number or a literal, told by its first byte
unfoldable pub token_at : List ℕ → ℕ → Reading
token_at s at =
    cond (eqb (byte_at s at) 34) (text_read_at s at)
    (cond (starts_number (byte_at s at)) (number_at s at).reading (literal_at s at))

-- it is read whole, then judged
unfoldable pub not_object_of : ℕ → Reading → Reading
not_object_of at (Ok end) = fault_at 12 at
not_object_of at (Err e) = Err e

-- an array or object is judged at its opening byte
unfoldable pub not_object_at : List ℕ → ℕ → Reading
not_object_at s at = cond (opens (byte_at s at)) (fault_at 12 at) (not_object_of at (token_at s at))
