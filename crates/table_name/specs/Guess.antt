-- For the code's sake alone: a field's name that is guessed before it is read, by its bytes between two quotes.
use Rattle.std.specs.Prelude.{ℕ, zero, suc, ◌+◌, Bool, true, cond, ◌&&◌, List, length, ltb, eqb}
use Rattle.json_bytes.specs.Reads.{byte_at, leading}
use Rattle.json_text.specs.Run.{is_graphic}
use Rattle.json_same.specs.Same.{same_list}
use Rattle.parts.specs.Part.{part_of}
use Rattle.table_rows.specs.Rows.{field_name_at, fields_from}
use Rattle.table_name.specs.Name.{index_of}

-- not empty, and each byte a character by itself that breaks no rule
unfoldable pub graphic_word : List ℕ → Bool
graphic_word word = ltb 0 (length word) && eqb (leading is_graphic word) (length word)

-- field k can be told by its bytes alone, and none before it has its name
unfoldable pub own_name : List ℕ → List ℕ → ℕ → ℕ → Bool
own_name rows names count k =
    graphic_word (field_name_at rows names k) && eqb (index_of (field_name_at rows names k) (fields_from rows names count 0)) k

-- so each of the first n fields
unfoldable pub own_below : List ℕ → List ℕ → ℕ → ℕ → Bool
own_below rows names count zero = true
own_below rows names count (suc n) = own_name rows names count n && own_below rows names count n

unfoldable pub names_apart : List ℕ → List ℕ → ℕ → Bool
names_apart rows names count = own_below rows names count count

-- the place behind a word that stands between two quotes, the first of them at `at`; 0, which no such place is, where
-- it does not stand there
unfoldable pub quoted_end : List ℕ → List ℕ → ℕ → ℕ
quoted_end word s at =
    cond (eqb (byte_at s at) 34)
    (cond (eqb (byte_at s (at + 1 + length word)) 34)
    (cond (same_list (part_of s (at + 1) (at + 1 + length word)) word) (at + length word + 2) 0)
    0)
    0

-- the place behind field k's name, where that stands at `at`
unfoldable pub guess_end : List ℕ → List ℕ → List ℕ → ℕ → ℕ → ℕ
guess_end rows names s at k = quoted_end (field_name_at rows names k) s at
