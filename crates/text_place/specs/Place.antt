-- Where a place of a file stands in its text, as line and column: document 02, order 6, prints a file's own mark for people, who
-- count lines and not bytes.
use Rattle.std.specs.Prelude.{ℕ, zero, suc, Bool, cond, not, List, [], ◌∷◌, length, eqb, ltb}
use Rattle.json_bytes.specs.Reads.{byte_at, within}
use Rattle.text_place.specs.declared.Spot.{Spot}

-- UTF-8: any byte of a character but its first is from 0x80 to 0xBF, and no first byte is
unfoldable pub is_continuation : ℕ → Bool
is_continuation b = within 128 191 b

unfoldable pub is_character : ℕ → Bool
is_character b = not (is_continuation b)

unfoldable pub is_line_feed : ℕ → Bool
is_line_feed b = eqb b 10

-- how many bytes of a list pass a test
unfoldable pub count_where : (ℕ → Bool) → List ℕ → ℕ
count_where f [] = 0
count_where f (b ∷ bs) = cond (f b) (suc (count_where f bs)) (count_where f bs)

-- the first n bytes, the last of them first
unfoldable pub backwards : List ℕ → ℕ → List ℕ
backwards s zero = []
backwards s (suc n) = byte_at s n ∷ backwards s n

-- those in front of the first line feed; all where there is none
unfoldable pub up_to_feed : List ℕ → List ℕ
up_to_feed [] = []
up_to_feed (b ∷ bs) = cond (is_line_feed b) [] (b ∷ up_to_feed bs)

abbrev pub spot : ℕ → ℕ → Spot
spot line column = record { line = line; column = column }

-- the spot behind the first n bytes: 1 and the line feeds among them; 1 and the characters behind the last line feed, or
-- behind the start
unfoldable pub spot_behind : List ℕ → ℕ → Spot
spot_behind s n = spot (suc (count_where is_line_feed (backwards s n))) (suc (count_where is_character (up_to_feed (backwards s n))))

-- the spot of a place; that of the end for any place past it
unfoldable pub spot_at : List ℕ → ℕ → Spot
spot_at s place = spot_behind s (cond (ltb place (length s)) place (length s))
