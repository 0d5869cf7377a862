-- The rules of document 01, "Marks 20 to 80", one for each mark in its order. Fields and enumeration values are named as
-- document 002 names them, and looked up in its tables.
use Rattle.std.specs.Prelude.{ℕ, suc, true, false, length}
use Prim.Native.String.{String}
use mathlib.Core.List.{List, [], ◌∷◌, map, flatten}
use Rattle.json_same.specs.Same.{same_list}
use Rattle.json_bytes.specs.Ascii.{codes}
use Rattle.table_fields.specs.Fields.{fields_of}
use Rattle.table_fields.specs.Enumerations.{values_of}
use Rattle.table_fields.specs.Flat.{first_value}
use Rattle.table_name.specs.Name.{index_of}
use Rattle.rule_when.specs.declared.When.{When}
use Rattle.rule_shape.specs.declared.Rule.{Rule}
use Rattle.rule_shape.specs.declared.Rule.TheVariants.{KeyOf, OneOf, NullUnless, GivenIf, GivenUnless, NoneBelow, SomeAbove, Together, LevelRun, ParentGiven, TargetIn, ParentIs, EachHas}
use Rattle.rule_shape.specs.Rule.{key, condition, row_of}

-- ---- Names
-- a field by its name, counted within its table; their count for a name that is none
unfoldable pub no : ℕ → String → ℕ
no file name = index_of (codes name) (fields_of file)

-- a value of an enumeration by its ID, counted through all enumerations; the count of all values for an ID that is none
unfoldable pub value_from : List ℕ → List (List ℕ) → ℕ → ℕ
value_from text [] v = first_value 11
value_from text (w ∷ ws) v = elim (same_list text w) [ true ↦ v | false ↦ value_from text ws (suc v) ]

unfoldable pub value : ℕ → String → ℕ
value e name = value_from (codes name) (values_of e) (first_value e)

-- ---- Keys of one to three fields: the first is an ID, and so are all of three
unfoldable pub ids : ℕ
ids = 1

unfoldable pub integers : ℕ
integers = 2

unfoldable pub dates : ℕ
dates = 3

unfoldable pub key1 : ℕ → String → Rule
key1 file a = KeyOf file (key (no file a) ids 0 0 0 0)

unfoldable pub key2 : ℕ → String → String → ℕ → Rule
key2 file a b kind = KeyOf file (key (no file a) ids (no file b) kind 0 0)

unfoldable pub key3 : ℕ → String → String → String → Rule
key3 file a b c = KeyOf file (key (no file a) ids (no file b) ids (no file c) ids)

-- ---- Conditions on a record: always; a field is given; it is true; it is one of two values of an enumeration
unfoldable pub always : When
always = condition 0 0 0 0

unfoldable pub when_given : ℕ → String → When
when_given file a = condition 1 (no file a) 0 0

unfoldable pub when_true : ℕ → String → When
when_true file a = condition 2 (no file a) 0 0

unfoldable pub is_either : ℕ → String → ℕ → String → String → When
is_either file a e v w = condition 3 (no file a) (value e v) (value e w)

unfoldable pub is : ℕ → String → ℕ → String → When
is file a e v = is_either file a e v v

-- ---- Shapes, with their fields by name
unfoldable pub enumeration : ℕ → String → ℕ → Rule
enumeration file a e = OneOf file (no file a) (first_value e) (length (values_of e))

unfoldable pub null_unless : ℕ → String → When → Rule
null_unless file a when = NullUnless file (no file a) when

unfoldable pub given_if : ℕ → String → When → Rule
given_if file a when = GivenIf file (no file a) when

unfoldable pub given_unless : ℕ → String → When → Rule
given_unless file a when = GivenUnless file (no file a) when

unfoldable pub target : ℕ → String → When → ℕ → String → Rule
target file a when other b = TargetIn file (no file a) when other (no other b)

unfoldable pub each_has : ℕ → String → When → ℕ → String → Rule
each_has file a when other b = EachHas file (no file a) when other (no other b)

-- over the fields from one to another
unfoldable pub none_below : ℕ → String → String → Rule
none_below file a b = NoneBelow file (no file a) (suc (no file b))

unfoldable pub some_above : ℕ → String → String → Rule
some_above file a b = SomeAbove file (no file a) (suc (no file b))

unfoldable pub together : ℕ → String → String → Rule
together file a b = Together file (no file a) (suc (no file b))

-- the outline
unfoldable pub levels : ℕ → String → Rule
levels file level = LevelRun file (no file level)

unfoldable pub parents : ℕ → String → String → String → Rule
parents file parent level id = ParentGiven file (no file parent) (no file level) (no file id)

unfoldable pub parent_types : ℕ → String → String → String → ℕ → String → String → ℕ → String → Rule
parent_types file parent level id other other_id other_type e v =
    ParentIs file (no file parent) (no file level) (no file id) other (no other other_id) (no other other_type) (value e v)

-- ---- Marks 20 to 80
unfoldable pub rules : List Rule
rules =
    -- 20–35, "primary keys of files 4 to 19 in order, from section 2.2 of 002"
    key1 4 "CustomFieldID" ∷
    key1 5 "CustomFieldID" ∷
    key1 6 "ID" ∷
    key2 7 "CalendarID" "Ordinal" integers ∷
    key2 8 "CalendarID" "ExceptionDate" dates ∷
    key1 9 "ID" ∷
    key1 10 "TaskID" ∷
    key1 11 "CustomFieldID" ∷
    key2 12 "TaskID" "CustomFieldID" ids ∷
    key2 13 "TaskID" "ConstraintTypeID" ids ∷
    key3 14 "PredecessorTaskID" "SuccessorTaskID" "RelationshipTypeID" ∷
    key1 15 "TaskID" ∷
    key1 16 "ID" ∷
    key1 17 "CustomFieldID" ∷
    key2 18 "ResourceID" "CustomFieldID" ids ∷
    key2 19 "ResourceID" "TaskID" ids ∷
    -- 36–47, "enumerations"
    enumeration 1 "ContractorIDCodeTypeID" 1 ∷
    enumeration 3 "DurationUnitsID" 2 ∷
    enumeration 4 "CustomFieldID" 10 ∷
    enumeration 9 "TaskTypeID" 3 ∷
    enumeration 9 "TaskSubtypeID" 4 ∷
    enumeration 9 "TaskPlanningLevelID" 5 ∷
    enumeration 9 "EarnedValueTechniqueID" 6 ∷
    enumeration 11 "CustomFieldID" 10 ∷
    enumeration 13 "ConstraintTypeID" 7 ∷
    enumeration 14 "RelationshipTypeID" 8 ∷
    enumeration 16 "ElementOfCostID" 9 ∷
    enumeration 17 "CustomFieldID" 10 ∷
    -- 48–64, "targets"
    target 5 "CustomFieldID" always 4 "CustomFieldID" ∷
    target 7 "CalendarID" always 6 "ID" ∷
    target 8 "CalendarID" always 6 "ID" ∷
    target 10 "TaskID" always 9 "ID" ∷
    target 10 "CalendarID" always 6 "ID" ∷
    target 12 "TaskID" always 9 "ID" ∷
    target 12 "CustomFieldID" always 11 "CustomFieldID" ∷
    target 13 "TaskID" always 9 "ID" ∷
    target 14 "PredecessorTaskID" always 9 "ID" ∷
    target 14 "SuccessorTaskID" always 9 "ID" ∷
    target 14 "LagCalendarID" always 6 "ID" ∷
    target 15 "TaskID" always 9 "ID" ∷
    target 15 "ParentTaskID" always 9 "ID" ∷
    target 18 "ResourceID" always 16 "ID" ∷
    target 18 "CustomFieldID" always 17 "CustomFieldID" ∷
    target 19 "ResourceID" always 16 "ID" ∷
    target 19 "TaskID" always 9 "ID" ∷
    -- 65 "ContractorIDCode null unless ContractorIDCodeTypeID isn't"; 66 "EVMSAcceptanceDate null unless EVMSAccepted is true"
    null_unless 1 "ContractorIDCode" (when_given 1 "ContractorIDCodeTypeID") ∷
    null_unless 1 "EVMSAcceptanceDate" (when_true 1 "EVMSAccepted") ∷
    -- 67 "each calendar has a workshift"
    each_has 6 "ID" always 7 "CalendarID" ∷
    -- 68 "no hours below zero"; 69 "some hours above zero; null is 0"; 70 "hours not below zero"
    none_below 7 "SundayWorkHours" "SaturdayWorkHours" ∷
    some_above 7 "SundayWorkHours" "SaturdayWorkHours" ∷
    none_below 8 "WorkHours" "WorkHours" ∷
    -- 71 "planning level given if the type is ACTIVITY"
    given_if 9 "TaskPlanningLevelID" (is 9 "TaskTypeID" 3 "ACTIVITY") ∷
    -- 72 "OtherEarnedValueTechnique null unless OTHER_DISCRETE or FIXED_X_Y"
    null_unless 9 "OtherEarnedValueTechnique" (is_either 9 "EarnedValueTechniqueID" 6 "OTHER_DISCRETE" "FIXED_X_Y") ∷
    -- 73 "schedule data for each task"; 74 "each SUMMARY task in the outline"
    each_has 9 "ID" always 10 "TaskID" ∷
    each_has 9 "ID" (is 9 "TaskTypeID" 3 "SUMMARY") 15 "TaskID" ∷
    -- 75 "the five baseline and variance fields all null or none"
    together 10 "BaselineDuration" "FinishVarianceDuration" ∷
    -- 76 "OtherConstraintType null unless OTHER"; 77 "ConstraintDate given unless AS_LATE_AS_POSSIBLE or OTHER"
    null_unless 13 "OtherConstraintType" (is 13 "ConstraintTypeID" 7 "OTHER") ∷
    given_unless 13 "ConstraintDate" (is_either 13 "ConstraintTypeID" 7 "AS_LATE_AS_POSSIBLE" "OTHER") ∷
    -- 78 "first Level 1, every Level at least 1, each at most one more than the one before"
    levels 15 "Level" ∷
    -- 79 "Level 1 has null ParentTaskID; any other has the TaskID of its parent"
    parents 15 "ParentTaskID" "Level" "TaskID" ∷
    -- 80 "some task with the parent's TaskID is SUMMARY"
    parent_types 15 "ParentTaskID" "Level" "TaskID" 9 "ID" "TaskTypeID" 3 "SUMMARY" ∷
    []

-- the rows that the code walks
unfoldable pub rule_rows : List ℕ
rule_rows = flatten (map row_of rules)
