-- How much of a value is printed beside a mark: document 02, order 6, shows the value of the deciding field, which may be long.
use Rattle.std.specs.Prelude.{ℕ, cond, List, length, leb}
use Rattle.json_bytes.specs.Reads.{byte_at}
use Rattle.text_place.specs.Place.{is_character}

-- the greatest of 80, 79, 78 and 77 in front of which a character ends, since the next byte starts one; 77 where none does.
-- A character of UTF-8 has at most four bytes, so that one of the four does.
unfoldable pub cut_within : List ℕ → ℕ
cut_within value =
    cond (is_character (byte_at value 80)) 80
    (cond (is_character (byte_at value 79)) 79
    (cond (is_character (byte_at value 78)) 78 77))

-- a value of more than 80 bytes is cut to its first 80, less those at the end that belong to a character cut in two
unfoldable pub cut_length : List ℕ → ℕ
cut_length value = cond (leb (length value) 80) (length value) (cut_within value)
