-- The objects of a JSON text, read off how the grammar has it, and what the cells of a file say of them.
use Rattle.std.specs.Prelude.{ℕ, ◌+◌, ◌*◌, ◌-◌, ◌<◌, ◌≡◌, Bool, true, false, cond, ◌&&◌, ◌||◌, List, [], ◌∷◌, length, get_or, eqb}
use Rattle.json_bytes.specs.Reads.{within}
use Rattle.table_rows.specs.Rows.{Field}
use Rattle.table_name.specs.Name.{index_of}
use Rattle.table_record.specs.Record.{start_cell, end_cell, type_of}
use Rattle.table_file.specs.Table.{TableRead}
use Rattle.grammar.specs.Grammar.{Bytes, Value, Member, Members, Elements, Text, meant}

-- ---- The objects
-- a member: the characters of its name, the bytes from its value on, and those behind it
pub record Named : Type 0 where
  pub name : List ℕ
  pub from : Bytes
  pub behind : Bytes

unfoldable pub member_of : {l r : Bytes} → Member l r → Named
member_of (Member.named {o = from} {r = behind} {cs = cs} s i j v) = record { name = meant cs; from = from; behind = behind }

unfoldable pub named_members : {l r : Bytes} → Members l r → List Named
named_members (Members.last_member m s) = member_of m ∷ []
named_members (Members.more_members m s t ms) = member_of m ∷ named_members ms

-- the members of an object, in order; of any other value none
unfoldable pub object_of : {l r : Bytes} → Value l r → List Named
object_of (Value.literal h) = []
object_of (Value.number h) = []
object_of (Value.string h) = []
object_of (Value.no_members s) = []
object_of (Value.object s ms) = named_members ms
object_of (Value.no_elements s) = []
object_of (Value.array s vs) = []

unfoldable pub named_elements : {l r : Bytes} → Elements l r → List (List Named)
named_elements (Elements.last_element v s) = object_of v ∷ []
named_elements (Elements.more_elements v s t vs) = object_of v ∷ named_elements vs

-- the elements of an array, in order; of any other value none
unfoldable pub named_array : {l r : Bytes} → Value l r → List (List Named)
named_array (Value.literal h) = []
named_array (Value.number h) = []
named_array (Value.string h) = []
named_array (Value.no_members s) = []
named_array (Value.object s ms) = []
named_array (Value.no_elements s) = []
named_array (Value.array s vs) = named_elements vs

-- the records of a file: the object that a singleton is, the elements of a table
unfoldable pub named_records : Bool → {l : Bytes} → Text l → List (List Named)
named_records single (Text.text s v t) = cond single (object_of v ∷ []) (named_array v)

-- ---- The cells
abbrev pub place_of : Bytes → Bytes → ℕ
place_of s l = length s - length l

-- null, and the empty string, two quotes alone, in the types 4 to 6: String, StringID and Text
unfoldable pub names_null : ℕ → Bytes → Named → Bool
names_null ty s n = eqb (get_or n.from 0 0) 0x6E || (within 4 6 ty && eqb (place_of s n.behind) (place_of s n.from + 2))

-- what the cells of a field say of the member that names it: where its value begins, and where it ends, 0 for a null
unfoldable pub start_in : Bytes → Named → ℕ
start_in s n = place_of s n.from

unfoldable pub end_in : Bytes → ℕ → Named → ℕ
end_in s ty n = cond (names_null ty s n) 0 (place_of s n.behind)

-- this number of the first member that names field k; another where none does
unfoldable pub of_field : List Field → ℕ → (Named → ℕ) → ℕ → List Named → ℕ
of_field fields k number other [] = other
of_field fields k number other (n ∷ ns) =
    elim (eqb (index_of n.name fields) k) [ true ↦ number n | false ↦ of_field fields k number other ns ]

-- ---- What is said of a file that holds
-- no member names field k
abbrev pub Absent : List Field → ℕ → List Named → Type 0
Absent fields k [] = Unit {0}
Absent fields k (n ∷ ns) = (index_of n.name fields ≡ k → ⊥) × Absent fields k ns

-- each member names a field, and no two the same
abbrev pub Proper : List Field → List Named → Type 0
Proper fields [] = Unit {0}
Proper fields (n ∷ ns) = (index_of n.name fields < length fields) × Absent fields (index_of n.name fields) ns × Proper fields ns

-- the cells of record r are those of an object's members, field by field; both are 0 for a field that none names
pub record RowIs (fields : List Field) (s : Bytes) (cells : List ℕ) (r : ℕ) (ns : List Named) : Type 0 where
  pub proper : Proper fields ns
  pub starts : (k : ℕ) → k < length fields → start_cell cells (r * (2 * length fields)) k ≡ of_field fields k (start_in s) 0 ns
  pub ends : (k : ℕ) → k < length fields → end_cell cells (r * (2 * length fields)) k ≡ of_field fields k (end_in s (type_of fields k)) 0 ns

-- as many records as the text has objects, and the cells of each are those of the object in its place
pub record FileIs (single : Bool) (fields : List Field) (s : Bytes) (text : Text s) (t : TableRead) : Type 0 where
  pub count : t.read.records ≡ length (named_records single text)
  pub rows : (r : ℕ) → r < t.read.records → RowIs fields s t.cells r (get_or (named_records single text) r [])
