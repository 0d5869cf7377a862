-- What stands in the slots of a sentence about a gate. A slot is one sign, which no sentence uses otherwise:
--   @ the table's name              ! the file's name
--   # the record's number           $ the name of the deciding field
--   % its value                     & its companion
--   ^ the name of the table searched    ~ the place in the file, as line and column
use Rattle.std.specs.Prelude.{ℕ, cond, length, take, ltb, eqb}
use mathlib.Core.List.{List, [], ◌∷◌, ◌++◌, map, flatten}
use Rattle.output.specs.Decimal.{decimal}
use Rattle.cut_value.specs.Cut.{cut_length}
use Rattle.json_bytes.specs.Ascii.{codes}
use Rattle.gate_lists.specs.declared.Which.{Which}
use Rattle.gate_names.specs.Names.{file_name_of, table_name_of, field_name_of}
use Rattle.wording.specs.declared.Slots.{Slots}

-- a value as it stands in the bundle, cut where it is long; `null` for none
unfoldable pub value_text : List ℕ → List ℕ
value_text value =
    cond (eqb (length value) 0) (codes "null") (take (cut_length value) value ++ cond (ltb (cut_length value) (length value)) (codes "...") [])

unfoldable pub companion_text : ℕ → List ℕ
companion_text companion = cond (eqb companion 0) (codes "none") (codes "record " ++ decimal companion)

unfoldable pub spot_text : ℕ → ℕ → List ℕ
spot_text line column = codes "line " ++ decimal line ++ codes ", column " ++ decimal column

-- what a sign of a sentence gives: in a slot what stands there, else itself
unfoldable pub slot_text : Which → Slots → List ℕ → ℕ → List ℕ
slot_text which slots value sign =
    cond (eqb sign 64) (table_name_of which slots.file)
    (cond (eqb sign 33) (file_name_of which slots.file)
    (cond (eqb sign 35) (decimal slots.«record»)
    (cond (eqb sign 36) (field_name_of which slots.file slots.field)
    (cond (eqb sign 37) (value_text value)
    (cond (eqb sign 38) (companion_text slots.companion)
    (cond (eqb sign 94) (table_name_of which slots.searched)
    (cond (eqb sign 126) (spot_text slots.line slots.column)
    (sign ∷ []))))))))

-- a sentence with its slots filled
unfoldable pub filled : Which → Slots → List ℕ → List ℕ → List ℕ
filled which slots value sentence = flatten (map (slot_text which slots value) sentence)
