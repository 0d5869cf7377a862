-- What stands around the values of a table: the name of a field, the colon behind it, and what follows in an object or an
-- array.
use Rattle.std.specs.Prelude.{ℕ, suc, ◌+◌, true, false, cond, List, [], ◌∷◌, length, ltb, eqb, Result, Ok, Err}
use Rattle.json_bytes.specs.declared.Fault.{Fault}
use Rattle.json_bytes.specs.Reads.{byte_at, spaces_end, Reading, fault_at}
use Rattle.json_chars.specs.Chars.{chars_at}
use Rattle.json_text.specs.Text.{text_read_at}
use Rattle.json_same.specs.Same.{same_as}
use Rattle.json_same.specs.declared.Case.TheVariants.{Kept}
use Rattle.table_rows.specs.Rows.{Field}
use Rattle.table_name.specs.declared.Named.{Named}
use Rattle.table_name.specs.declared.Next.{Next}
use Rattle.table_name.specs.declared.Next.TheVariants.{More, Ends, Neither}

-- the place among a table's fields of the one that these characters name, case kept; their count where they name none
unfoldable pub index_of : List ℕ → List Field → ℕ
index_of cs [] = 0
index_of cs (f ∷ fs) = elim (same_as Kept cs f.name) [ true ↦ 0 | false ↦ suc (index_of cs fs) ]

-- what reading a name gives: the field's place among those of its table and the place behind the name, or a fault
abbrev pub NameRead : Type 0
NameRead = Result Named Fault

abbrev pub named : ℕ → ℕ → NameRead
named index end = Ok (record { index = index; end = end })

abbrev pub unnamed : ℕ → ℕ → NameRead
unnamed kind place = Err (record { kind = kind; place = place })

-- 13: "name isn't a field of the table, after escapes are decoded, case kept; its opening quote"
unfoldable pub named_at : List Field → List ℕ → ℕ → ℕ → NameRead
named_at fields s at end =
    cond (ltb (index_of (chars_at s at) fields) (length fields)) (named (index_of (chars_at s at) fields) end) (unnamed 13 at)

unfoldable pub name_at : List Field → List ℕ → ℕ → NameRead
name_at fields s at =
    elim (text_read_at s at) [ Ok end ↦ named_at fields s at end | Err e ↦ Err e ]

-- behind a name: spaces, a colon, spaces, and there the value begins
unfoldable pub colon_at : List ℕ → ℕ → Reading
colon_at s end =
    cond (eqb (byte_at s (spaces_end s end)) 58) (Ok (spaces_end s (spaces_end s end + 1))) (fault_at 11 (spaces_end s end))

-- behind an opening bracket or brace at a place: its closing one, or the first member
unfoldable pub first_in : List ℕ → ℕ → ℕ → Next
first_in s at closing =
    cond (ltb at (length s))
    (cond (eqb (byte_at s (spaces_end s (at + 1))) closing) (Ends (spaces_end s (at + 1))) (More (spaces_end s (at + 1))))
    (Neither at)

-- behind a member that ends at a place: a comma and the next member, or the closing bracket or brace
unfoldable pub next_after : List ℕ → ℕ → ℕ → Next
next_after s end closing =
    cond (eqb (byte_at s (spaces_end s end)) 44) (More (spaces_end s (spaces_end s end + 1)))
    (cond (eqb (byte_at s (spaces_end s end)) closing) (Ends (spaces_end s end)) (Neither (spaces_end s end)))
