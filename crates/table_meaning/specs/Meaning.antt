-- What a table that holds means: where each record stands, which of the table's fields it names and where the value of each
-- stands; and that the record's cells are these places. It is said of the bytes, so that whoever takes a value from a cell
-- need not know how the cell was filled: a rule, a reason that shows a value, an entry of a lookup.
-- Records and fields are counted from 0. Brackets are the bytes 91 and 93, braces 123 and 125.
use Rattle.std.specs.Prelude.{ℕ, ◌+◌, ◌*◌, ◌<◌, ◌≤◌, ◌≡◌, Bool, true, false, cond, length, get_or, Ok}
use mathlib.Core.List.{List, [], ◌∷◌, map, Memᴰ}
use Rattle.json_bytes.specs.Reads.{byte_at, spaces_end}
use Rattle.table_rows.specs.Rows.{Field}
use Rattle.table_value.specs.Value.{value_at}
use Rattle.table_value.specs.declared.ValueRead.TheVariants.{Held, Null}
use Rattle.table_name.specs.Name.{name_at, colon_at, first_in, next_after, named as known}
use Rattle.table_name.specs.declared.Next.{Next}
use Rattle.table_name.specs.declared.Next.TheVariants.{More, Ends}
use Rattle.table_record.specs.Record.{start_cell, end_cell, type_of}
use Rattle.table_meaning.specs.Typed.{Typed}

infix 4 ◌∈◌
abbrev pub ◌∈◌ : {A : Type 0} → A → List A → Type 0
a ∈ l = Memᴰ a l

-- ---- Parts of the file one behind the other
-- a part of the file, from its first byte to the place behind its last
pub record Span : Type 0 where
  pub from : ℕ
  pub to : ℕ

abbrev pub span : ℕ → ℕ → Span
span from to = record { from = from; to = to }

-- The parts of an object or an array in reading order. `next` is what stands behind the opening brace or bracket, or behind
-- the part before and its comma: there the first of them begins. `rest` is what stands behind the last.
abbrev pub Row : List ℕ → ℕ → Next → List Span → Next → Type 0
Row s closing next [] rest = next ≡ rest
Row s closing next (x ∷ xs) rest = (next ≡ More x.from) × Row s closing (next_after s x.to closing) xs rest

-- ---- A name with its value
-- where the name stands, which field of the table it is, where its value starts and ends, and whether that is null, as `null`
-- or as the empty string
pub record Member : Type 0 where
  pub name : ℕ
  pub field : ℕ
  pub start : ℕ
  pub end : ℕ
  pub null : Bool

abbrev pub member : ℕ → ℕ → ℕ → ℕ → Bool → Member
member name field start end null = record { name = name; field = field; start = start; end = end; null = null }

abbrev pub span_of : Member → Span
span_of m = span m.name m.end

-- it stands so in the file: the name is the field's, behind it a colon, and behind that a value that belongs in the field
pub record MemberStands (fields : List Field) (s : List ℕ) (m : Member) : Type 0 where
  pub behind : ℕ
  pub named : name_at fields s m.name ≡ known m.field behind
  pub colon : colon_at s behind ≡ Ok m.start
  pub value : value_at s m.start (type_of fields m.field) ≡ cond m.null (Null m.end) (Held m.end)

-- ---- A record
-- an object, from its opening brace to behind its closing one, that has these members and no other
pub record Object (fields : List Field) (s : List ℕ) (x : Span) (members : List Member) : Type 0 where
  pub brace : byte_at s x.from ≡ 123
  pub last : ℕ
  pub row : Row s 125 (first_in s x.from 125) (map span_of members) (Ends last)
  pub ends : x.to ≡ last + 1
  pub stands : (m : Member) → m ∈ members → MemberStands fields s m

-- What the two cells of field k say of a record with these members: where its value stands; an end of 0 for null; 0 and 0
-- for a field that no name of the record is.
pub data Says (members : List Member) (k : ℕ) : ℕ → ℕ → Type 0 where
  IsValue : {name start end : ℕ} → member name k start end false ∈ members → Says members k start end
  IsNull : {name start end : ℕ} → member name k start end true ∈ members → Says members k start 0
  IsAbsent : ((m : Member) → m ∈ members → m.field ≡ k → ⊥) → Says members k 0 0

-- whether field k may be null
unfoldable pub is_nullable : List Field → ℕ → Bool
is_nullable fields k = get_or (map (λ (f : Field). f.nullable) fields) k true

-- how many cells a record has
abbrev pub record_width : List Field → ℕ
record_width fields = 2 * length fields

-- A record, and its cells from a base on
pub record Gives (fields : List Field) (s : List ℕ) (x : Span) (cells : List ℕ) (base : ℕ) : Type 0 where
  pub members : List Member
  pub object : Object fields s x members
  -- no field is named twice: two members of one field are one and the same
  pub once : (m n : Member) → m ∈ members → n ∈ members → m.field ≡ n.field → m ≡ n
  -- names and values stand between the braces
  pub within : (m : Member) → m ∈ members → (x.from < m.name) × (m.name < m.start) × (m.start < m.end) × (m.end < x.to)
  pub cell : (k : ℕ) → k < length fields → Says members k (start_cell cells base k) (end_cell cells base k)
  -- a field that is not nullable holds a value
  pub full : (k : ℕ) → k < length fields → is_nullable fields k ≡ false → 0 < end_cell cells base k

-- a value of field k that is not null, and where it stands in the record
pub record HeldIn (fields : List Field) (s : List ℕ) (x : Span) (k start end : ℕ) : Type 0 where
  pub held : value_at s start (type_of fields k) ≡ Held end
  pub typed : Typed s (type_of fields k) start end
  pub after : x.from < start
  pub some : start < end
  pub before : end < x.to

-- ---- A table
-- its records stand in an array, that of a singleton stands alone; around it are only spaces
pub record InArray (s : List ℕ) (records : List Span) : Type 0 where
  pub bracket : byte_at s (spaces_end s 0) ≡ 91
  pub last : ℕ
  pub row : Row s 93 (first_in s (spaces_end s 0) 93) records (Ends last)
  pub ends : spaces_end s (last + 1) ≡ length s

pub record Alone (s : List ℕ) (records : List Span) : Type 0 where
  pub to : ℕ
  pub one : records ≡ span (spaces_end s 0) to ∷ []
  pub ends : spaces_end s to ≡ length s

abbrev pub Laid : Bool → List ℕ → List Span → Type 0
Laid true s records = Alone s records
Laid false s records = InArray s records

-- record r of them
unfoldable pub record_in : List Span → ℕ → Span
record_in records r = get_or records r (span 0 0)

pub record Means (single : Bool) (fields : List Field) (s cells : List ℕ) (n : ℕ) : Type 0 where
  pub records : List Span
  pub count : length records ≡ n
  pub laid : Laid single s records
  pub few : n ≤ 4096
  -- each ends before any later one begins, within the file
  pub order : (r q : ℕ) → r < q → q < n → (record_in records r).to < (record_in records q).from
  pub inside : (r : ℕ) → r < n → ((record_in records r).from < (record_in records r).to) × ((record_in records r).to ≤ length s)
  -- a record has 128 cells at most
  pub narrow : (r : ℕ) → r < n → length fields ≤ 64
  pub gives : (r : ℕ) → r < n → Gives fields s (record_in records r) cells (r * record_width fields)
