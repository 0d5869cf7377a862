-- What a rule sees of a readable table: its bytes and, for each record and field, where the value stands. Records and
-- fields are counted from 0 here; a place of a mark counts records from 1.
use Rattle.std.specs.Prelude.{ℕ, zero, suc, ◌+◌, ◌*◌, Bool, true, false, cond, ◌&&◌, List, get_or, ltb, leb, eqb}
use Rattle.json_bytes.specs.Reads.{byte_at}
use Rattle.json_chars.specs.Chars.{chars_at}
use Rattle.json_same.specs.Same.{same_as}
use Rattle.json_same.specs.declared.Case.TheVariants.{Folded}
use Rattle.json_number.specs.Number.{number_at, integer_of, sign_of}
use Rattle.json_number.specs.declared.Integer.{Integer}
use Rattle.json_number.specs.declared.Integer.TheVariants.{Is}
use Rattle.json_number.specs.declared.Sign.{Sign}
use Rattle.json_number.specs.declared.Sign.TheVariants.{Zero}
use Rattle.json_date.specs.Date.{Date, date_of}

-- a table: its bytes, its cells, how many cells a record has, and how many records there are
pub record Table : Type 0 where
  pub bytes : List ℕ
  pub cells : List ℕ
  pub width : ℕ
  pub records : ℕ

abbrev pub table : List ℕ → List ℕ → ℕ → ℕ → Table
table bytes cells width records = record { bytes = bytes; cells = cells; width = width; records = records }

-- cell j of record r; no table has over 4,096 records or 128 cells a record, and what is past them is 0
unfoldable pub cell_of : List ℕ → ℕ → ℕ → ℕ → ℕ
cell_of cells width r j = cond (leb r 4096 && (leb width 128 && leb j 128)) (get_or cells (r * width + j) 0) 0

-- where field k of record r starts
unfoldable pub start_of : List ℕ → ℕ → ℕ → ℕ → ℕ
start_of cells width r k = cell_of cells width r (2 * k)

-- whether it holds a value: not absent, null or empty
unfoldable pub is_given : List ℕ → ℕ → ℕ → ℕ → Bool
is_given cells width r k = ltb 0 (cell_of cells width r (2 * k + 1))

-- ---- The value
-- an ID or an enumeration's value: its characters
unfoldable pub text_of : Table → ℕ → ℕ → List ℕ
text_of t r k = chars_at t.bytes (start_of t.cells t.width r k)

-- "IDs and enumeration values are compared with A–Z folded to a–z in every rule"
unfoldable pub same_text : Table → ℕ → ℕ → Table → ℕ → ℕ → Bool
same_text t r k u q m = same_as Folded (text_of t r k) (text_of u q m)

unfoldable pub is_word : Table → ℕ → ℕ → List ℕ → Bool
is_word t r k word = same_as Folded (text_of t r k) word

-- a Boolean is true where it begins with the letter t
unfoldable pub is_true : Table → ℕ → ℕ → Bool
is_true t r k = is_given t.cells t.width r k && eqb (byte_at t.bytes (start_of t.cells t.width r k)) 116

-- an Integer; null is 0
unfoldable pub integer_in : Table → ℕ → ℕ → Integer
integer_in t r k =
    cond (is_given t.cells t.width r k) (integer_of (number_at t.bytes (start_of t.cells t.width r k)).value) (Is false 0)

unfoldable pub date_in : Table → ℕ → ℕ → Date
date_in t r k = date_of (text_of t r k)

-- a Decimal beside zero; null is 0
unfoldable pub sign_in : Table → ℕ → ℕ → Sign
sign_in t r k = cond (is_given t.cells t.width r k) (sign_of (number_at t.bytes (start_of t.cells t.width r k)).value) Zero

-- ---- The first breaking record of a table, counted from 1; 0 where none breaks
-- of n records from record i on
unfoldable pub first_from : (ℕ → Bool) → ℕ → ℕ → ℕ
first_from breaks zero i = 0
first_from breaks (suc n) i = elim (breaks i) [ true ↦ suc i | false ↦ first_from breaks n (suc i) ]

unfoldable pub first_that : (ℕ → Bool) → ℕ → ℕ
first_that breaks n = first_from breaks n 0
