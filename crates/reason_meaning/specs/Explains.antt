-- What a reader may take from an answer that shows a rule broken. Document 02, order 6: "Prove that the record shown breaks the
-- rule named and that no earlier one does." The field shown is the one that decides, and the value shown is the one that the
-- record has in that field, as the file's bytes have it.
use Rattle.std.specs.Prelude.{ℕ, ◌+◌, ◌-◌, ◌<◌, ◌≡◌, Bool, true, false, List, []}
use Rattle.parts.specs.Part.{part_of}
use Rattle.parts.specs.Files.{File}
use Rattle.table_rows.specs.Rows.{Field}
use Rattle.table_file.specs.File.{Form, Fixed, Single, Records}
use Rattle.rule_cells.specs.Cells.{Table}
use Rattle.rule_shape.specs.declared.Rule.{Rule}
use Rattle.rule_shape.specs.declared.Rule.TheVariants.{KeyOf, OneOf, NullUnless, GivenIf, GivenUnless, NoneBelow, SomeAbove, Together, LevelRun, ParentGiven, AllGiven, NoneGiven, InOrder, TreeLevels, TreeParent, TargetIn, ParentIs, LeafIn, EachHas}
use Rattle.rule_shape.specs.Rule.{first_file_of, second_file_of}
use Rattle.rule_meaning.specs.Decides.{Shows}
use Rattle.table_meaning.specs.Meaning.{◌∈◌, Member, member, Means}
use Rattle.reason_answer.specs.declared.Shown.{Shown}
use Rattle.gate_marks.specs.Gate.{Gate, rule_of_mark}
use Rattle.gate_marks.specs.Marks.{table_of}

-- ---- A file by its form: its fields, and whether it has one record alone
unfoldable pub form_fields : Form → List Field
form_fields (Fixed text) = []
form_fields (Single fields) = fields
form_fields (Records fields) = fields

unfoldable pub is_single : Form → Bool
is_single (Fixed text) = false
is_single (Single fields) = true
is_single (Records fields) = false

-- ---- The value of field k among the members of a record
-- where it stands in the bundle, in which the file starts at an offset, and how long it is: "its value as the part of the bundle
-- where it stands .., empty for null"
pub data ValueOf (members : List Member) (offset k : ℕ) : ℕ → ℕ → Type 0 where
  IsValue : {name start end : ℕ} → member name k start end false ∈ members → start < end → ValueOf members offset k (offset + start) (end - start)
  IsNull : ((y : Member) → y ∈ members → y.field ≡ k → y.null ≡ true) → ValueOf members offset k 0 0

-- its bytes, of the file's bytes s
pub data BytesOf (members : List Member) (s : List ℕ) (k : ℕ) : List ℕ → Type 0 where
  TheValue : {name start end : ℕ} → member name k start end false ∈ members → BytesOf members s k (part_of s start end)
  Nothing : ((y : Member) → y ∈ members → y.field ≡ k → y.null ≡ true) → BytesOf members s k []

-- ---- What is shown of mark m, that of a rule
abbrev pub table_judged : Gate → (ℕ → File) → ℕ → Table
table_judged g files k = table_of (g.expected k) (files k)

-- the records of file k stand in its bytes, each with the cells that the rules read
abbrev pub Reads : Gate → (ℕ → File) → ℕ → Type 0
Reads g files k =
    Means (is_single (g.expected k).form) (form_fields (g.expected k).form) (table_judged g files k).bytes (table_judged g files k).cells (table_judged g files k).records

pub record Explains (g : Gate) (offset : ℕ → ℕ) (files : ℕ → File) (m : ℕ) (shown : Shown) : Type 0 where
  pub file-is : shown.file ≡ first_file_of (rule_of_mark g m)
  -- the record, counted from 0
  pub r : ℕ
  pub record_is : shown.«record» ≡ r + 1
  -- it breaks the rule and no earlier one does; the field decides
  pub shows : Shows g.values g.texts (rule_of_mark g m) (table_judged g files (first_file_of (rule_of_mark g m))) (table_judged g files (second_file_of (rule_of_mark g m))) r shown.field
  -- the value is the one that this record has in that field
  pub means : Reads g files (first_file_of (rule_of_mark g m))
  pub value : ValueOf (means.gives r shows.inside).members (offset (first_file_of (rule_of_mark g m))) shown.field shown.start shown.length

-- ---- A rule names fields that its table has: behind the last that can decide it
unfoldable pub fields_end : Rule → ℕ
fields_end (KeyOf file key) = key.a + 1
fields_end (OneOf file field first count) = field + 1
fields_end (NullUnless file field when) = field + 1
fields_end (GivenIf file field when) = field + 1
fields_end (GivenUnless file field when) = field + 1
fields_end (NoneBelow file from to) = to
fields_end (SomeAbove file from to) = from + 1
fields_end (Together file from to) = to
fields_end (LevelRun file level) = level + 1
fields_end (ParentGiven file parent level id) = parent + 1
fields_end (AllGiven file from to) = to
fields_end (NoneGiven file from to) = to
fields_end (InOrder file first second) = first + 1
fields_end (TreeLevels file level) = level + 1
fields_end (TreeParent file parent level id) = parent + 1
fields_end (TargetIn file field when other id) = field + 1
fields_end (ParentIs file parent level id other other_id other_type value) = parent + 1
fields_end (LeafIn file field other id level) = field + 1
fields_end (EachHas file field when other id) = field + 1
