-- For the code's sake alone: which field a name is likely to be, told by three of its bytes. Nothing stands on a hint being
-- right: the field that it names is tried.
use Rattle.std.specs.Prelude.{ℕ, zero, suc, ◌+◌, ◌*◌, ◌%◌, cond, List, length, get_or, set, ltb}
use Rattle.json_bytes.specs.Reads.{byte_at}
use Rattle.table_rows.specs.Rows.{field_name_at}

-- the place among the hints of a name with these first, fifth and ninth bytes
unfoldable pub hint_of : ℕ → ℕ → ℕ → ℕ
hint_of a b c = (a * 2 + b * 3 + c) % 256

-- what the hints say of the name whose opening quote stands at `at`; 255 past the end of the file or of the hints
unfoldable pub hint_at : List ℕ → ℕ → List ℕ → ℕ
hint_at s at hints =
    cond (ltb (at + 9) (length s)) (get_or hints (hint_of (byte_at s (at + 1)) (byte_at s (at + 5)) (byte_at s (at + 9))) 255) 255

-- the hints with a number at the place of a word; a word of fewer than nine bytes has no place
unfoldable pub hinted : List ℕ → ℕ → List ℕ → List ℕ
hinted word k hints =
    cond (ltb (length word) 9) hints (set hints (hint_of (byte_at word 0) (byte_at word 4) (byte_at word 8)) (k % 256))

unfoldable pub with_hint : List ℕ → List ℕ → ℕ → List ℕ → List ℕ
with_hint rows names k hints = hinted (field_name_at rows names k) k hints

-- the hints with the names of the first n fields, one after the other
unfoldable pub hints_of : List ℕ → List ℕ → ℕ → List ℕ → List ℕ
hints_of rows names zero hints = hints
hints_of rows names (suc n) hints = with_hint rows names n (hints_of rows names n hints)
