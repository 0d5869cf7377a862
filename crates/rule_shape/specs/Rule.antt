-- A rule of document 01, "Marks 20 to 80", or of document 02 by its shape: which files it reads, and the row of nine numbers that stands for it.
-- The variants of `Rule`, each with the document's words, are in the code.
use Rattle.std.specs.Prelude.{ℕ, zero, suc, ◌/◌, Bool, ◌||◌, List, [], ◌∷◌, length, get_or, eqb}
use Rattle.table_rows.specs.Rows.{cell_at}
use Rattle.rule_key.specs.declared.Key.{Key}
use Rattle.rule_when.specs.declared.When.{When}
use Rattle.rule_shape.specs.declared.Rule.{Rule}
use Rattle.rule_shape.specs.declared.Rule.TheVariants.{KeyOf, OneOf, NullUnless, GivenIf, GivenUnless, NoneBelow, SomeAbove, Together, LevelRun, ParentGiven, AllGiven, NoneGiven, InOrder, TreeLevels, TreeParent, TargetIn, ParentIs, LeafIn, EachHas}

-- ---- What a rule reads. "place the first breaking record of the table named first": the file whose records it judges
unfoldable pub first_file_of : Rule → ℕ
first_file_of (KeyOf file fields) = file
first_file_of (OneOf file field first count) = file
first_file_of (NullUnless file field when) = file
first_file_of (GivenIf file field when) = file
first_file_of (GivenUnless file field when) = file
first_file_of (NoneBelow file from to) = file
first_file_of (SomeAbove file from to) = file
first_file_of (Together file from to) = file
first_file_of (LevelRun file level) = file
first_file_of (ParentGiven file parent level id) = file
first_file_of (AllGiven file from to) = file
first_file_of (NoneGiven file from to) = file
first_file_of (InOrder file first second) = file
first_file_of (TreeLevels file level) = file
first_file_of (TreeParent file parent level id) = file
first_file_of (TargetIn file field when other id) = file
first_file_of (ParentIs file parent level id other other_id other_type value) = file
first_file_of (LeafIn file field other id level) = file
first_file_of (EachHas file field when other id) = file

-- the file it looks into; a rule that looks into no other looks into its own
unfoldable pub second_file_of : Rule → ℕ
second_file_of (KeyOf file fields) = file
second_file_of (OneOf file field first count) = file
second_file_of (NullUnless file field when) = file
second_file_of (GivenIf file field when) = file
second_file_of (GivenUnless file field when) = file
second_file_of (NoneBelow file from to) = file
second_file_of (SomeAbove file from to) = file
second_file_of (Together file from to) = file
second_file_of (LevelRun file level) = file
second_file_of (ParentGiven file parent level id) = file
second_file_of (AllGiven file from to) = file
second_file_of (NoneGiven file from to) = file
second_file_of (InOrder file first second) = file
second_file_of (TreeLevels file level) = file
second_file_of (TreeParent file parent level id) = file
second_file_of (TargetIn file field when other id) = other
second_file_of (ParentIs file parent level id other other_id other_type value) = other
second_file_of (LeafIn file field other id level) = other
second_file_of (EachHas file field when other id) = other

-- "A rule reads only the files named in its line."
unfoldable pub reads : Rule → ℕ → Bool
reads rule file = eqb (first_file_of rule) file || eqb (second_file_of rule) file

-- ---- A rule's row: its shape, its file, the file it looks into, the deciding field, and five that the shape reads
unfoldable pub row_of : Rule → List ℕ
row_of (KeyOf file fields) =
    0 ∷ file ∷ file ∷ fields.a ∷ fields.a_kind ∷ fields.b ∷ fields.b_kind ∷ fields.c ∷ fields.c_kind ∷ []
row_of (OneOf file field first count) = 1 ∷ file ∷ file ∷ field ∷ first ∷ count ∷ 0 ∷ 0 ∷ 0 ∷ []
row_of (NullUnless file field when) =
    2 ∷ file ∷ file ∷ field ∷ when.kind ∷ when.field ∷ when.first ∷ when.second ∷ 0 ∷ []
row_of (GivenIf file field when) =
    3 ∷ file ∷ file ∷ field ∷ when.kind ∷ when.field ∷ when.first ∷ when.second ∷ 0 ∷ []
row_of (GivenUnless file field when) =
    4 ∷ file ∷ file ∷ field ∷ when.kind ∷ when.field ∷ when.first ∷ when.second ∷ 0 ∷ []
row_of (NoneBelow file from to) = 5 ∷ file ∷ file ∷ from ∷ to ∷ 0 ∷ 0 ∷ 0 ∷ 0 ∷ []
row_of (SomeAbove file from to) = 6 ∷ file ∷ file ∷ from ∷ to ∷ 0 ∷ 0 ∷ 0 ∷ 0 ∷ []
row_of (Together file from to) = 7 ∷ file ∷ file ∷ from ∷ to ∷ 0 ∷ 0 ∷ 0 ∷ 0 ∷ []
row_of (LevelRun file level) = 8 ∷ file ∷ file ∷ level ∷ 0 ∷ 0 ∷ 0 ∷ 0 ∷ 0 ∷ []
row_of (ParentGiven file parent level id) = 9 ∷ file ∷ file ∷ parent ∷ level ∷ id ∷ 0 ∷ 0 ∷ 0 ∷ []
row_of (AllGiven file from to) = 10 ∷ file ∷ file ∷ from ∷ to ∷ 0 ∷ 0 ∷ 0 ∷ 0 ∷ []
row_of (NoneGiven file from to) = 11 ∷ file ∷ file ∷ from ∷ to ∷ 0 ∷ 0 ∷ 0 ∷ 0 ∷ []
row_of (InOrder file first second) = 12 ∷ file ∷ file ∷ first ∷ second ∷ 0 ∷ 0 ∷ 0 ∷ 0 ∷ []
row_of (TreeLevels file level) = 13 ∷ file ∷ file ∷ level ∷ 0 ∷ 0 ∷ 0 ∷ 0 ∷ 0 ∷ []
row_of (TreeParent file parent level id) = 14 ∷ file ∷ file ∷ parent ∷ level ∷ id ∷ 0 ∷ 0 ∷ 0 ∷ []
row_of (TargetIn file field when other id) =
    15 ∷ file ∷ other ∷ field ∷ when.kind ∷ when.field ∷ when.first ∷ when.second ∷ id ∷ []
row_of (ParentIs file parent level id other other_id other_type value) =
    16 ∷ file ∷ other ∷ parent ∷ level ∷ id ∷ other_id ∷ other_type ∷ value ∷ []
row_of (LeafIn file field other id level) = 17 ∷ file ∷ other ∷ field ∷ id ∷ level ∷ 0 ∷ 0 ∷ 0 ∷ []
row_of (EachHas file field when other id) =
    18 ∷ file ∷ other ∷ field ∷ when.kind ∷ when.field ∷ when.first ∷ when.second ∷ id ∷ []

-- ---- Read back
abbrev pub key : ℕ → ℕ → ℕ → ℕ → ℕ → ℕ → Key
key a a_kind b b_kind c c_kind = record { a = a; a_kind = a_kind; b = b; b_kind = b_kind; c = c; c_kind = c_kind }

abbrev pub condition : ℕ → ℕ → ℕ → ℕ → When
condition kind field first second = record { kind = kind; field = field; first = first; second = second }

-- what eight numbers of a row stand for by each shape, in the order of the shapes' numbers
unfoldable pub shapes_of : ℕ → ℕ → ℕ → ℕ → ℕ → ℕ → ℕ → ℕ → List Rule
shapes_of file other field a b c d e =
    KeyOf file (key field a b c d e)
    ∷ OneOf file field a b
    ∷ NullUnless file field (condition a b c d)
    ∷ GivenIf file field (condition a b c d)
    ∷ GivenUnless file field (condition a b c d)
    ∷ NoneBelow file field a
    ∷ SomeAbove file field a
    ∷ Together file field a
    ∷ LevelRun file field
    ∷ ParentGiven file field a b
    ∷ AllGiven file field a
    ∷ NoneGiven file field a
    ∷ InOrder file field a
    ∷ TreeLevels file field
    ∷ TreeParent file field a b
    ∷ TargetIn file field (condition a b c d) other e
    ∷ ParentIs file field a b other c d e
    ∷ LeafIn file field other a b
    ∷ []

-- the rule of a row: any shape past these is the last
unfoldable pub rule_of : ℕ → ℕ → ℕ → ℕ → ℕ → ℕ → ℕ → ℕ → ℕ → Rule
rule_of shape file other field a b c d e =
    get_or (shapes_of file other field a b c d e) shape (EachHas file field (condition a b c d) other e)

-- rule i of any rows
unfoldable pub rule_from : List ℕ → ℕ → Rule
rule_from rows i =
    rule_of (cell_at rows 9 i 0) (cell_at rows 9 i 1) (cell_at rows 9 i 2) (cell_at rows 9 i 3) (cell_at rows 9 i 4)
    (cell_at rows 9 i 5) (cell_at rows 9 i 6) (cell_at rows 9 i 7) (cell_at rows 9 i 8)

-- n rules from rule i on
unfoldable pub rules_from : List ℕ → ℕ → ℕ → List Rule
rules_from rows zero i = []
rules_from rows (suc n) i = rule_from rows i ∷ rules_from rows n (suc i)

-- as many as there are whole rows
unfoldable pub rules_in : List ℕ → List Rule
rules_in rows = rules_from rows (length rows / 9) 0
