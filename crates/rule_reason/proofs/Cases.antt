-- What document 02, order 6, says of each mark by its number, held to the rules of document 01 by the names of document 002.
-- Assumes nothing.
use Prim.Native.Nat.{ℕ, zero, suc, ◌-◌}
use Prim.Native.String.{String}
use mathlib.Core.Path.{◌≡◌, refl}
use mathlib.Core.List.{List, [], ◌∷◌, map}
use lib.ListN.{get_or}
use Rattle.json_bytes.specs.Ascii.{codes}
use Rattle.table_fields.specs.Fields.{fields_of}
use Rattle.rule_cells.specs.Cells.{Table}
use Rattle.rule_shape.specs.declared.Rule.{Rule}
use Rattle.rule_shape.specs.declared.Rule.TheVariants.{NoneBelow, Together, LevelRun}
use Rattle.rule_shape.specs.Rule.{first_file_of}
use Rattle.schedule_rules.specs.Rules.{rules}
use Rattle.schedule_rules.proofs.Opens.{open-rows}
use Rattle.rule_reason.specs.declared.Searched.{Searched}
use Rattle.rule_reason.specs.declared.Searched.TheVariants.{In, Nowhere}
use Rattle.rule_reason.specs.Reason.{deciding_field, searched_in}
use Rattle.rule_reason.proofs.Opens.{open-reasons}

-- the rule of a mark from 20 on; no mark of document 01 has the one that stands past its rules
unfoldable pub rule_of : ℕ → Rule
rule_of mark = get_or rules (mark - 20) (LevelRun 0 0)

-- the name of a field of a file
unfoldable pub name_of : ℕ → ℕ → List ℕ
name_of file k = get_or (map (λ f. f.name) (fields_of file)) k []

-- ---- The marks whose deciding field is one field, whatever the record holds
unfoldable pub deciding : List (ℕ × String)
deciding =
    -- "for a key, its first"
    (20, "CustomFieldID")
    ∷ (21, "CustomFieldID")
    ∷ (22, "ID")
    ∷ (23, "CalendarID")
    ∷ (24, "CalendarID")
    ∷ (25, "ID")
    ∷ (26, "TaskID")
    ∷ (27, "CustomFieldID")
    ∷ (28, "TaskID")
    ∷ (29, "TaskID")
    ∷ (30, "PredecessorTaskID")
    ∷ (31, "TaskID")
    ∷ (32, "ID")
    ∷ (33, "CustomFieldID")
    ∷ (34, "ResourceID")
    ∷ (35, "ResourceID")
    -- "36 to 64 the one compared"
    ∷ (36, "ContractorIDCodeTypeID")
    ∷ (37, "DurationUnitsID")
    ∷ (38, "CustomFieldID")
    ∷ (39, "TaskTypeID")
    ∷ (40, "TaskSubtypeID")
    ∷ (41, "TaskPlanningLevelID")
    ∷ (42, "EarnedValueTechniqueID")
    ∷ (43, "CustomFieldID")
    ∷ (44, "ConstraintTypeID")
    ∷ (45, "RelationshipTypeID")
    ∷ (46, "ElementOfCostID")
    ∷ (47, "CustomFieldID")
    ∷ (48, "CustomFieldID")
    ∷ (49, "CalendarID")
    ∷ (50, "CalendarID")
    ∷ (51, "TaskID")
    ∷ (52, "CalendarID")
    ∷ (53, "TaskID")
    ∷ (54, "CustomFieldID")
    ∷ (55, "TaskID")
    ∷ (56, "PredecessorTaskID")
    ∷ (57, "SuccessorTaskID")
    ∷ (58, "LagCalendarID")
    ∷ (59, "TaskID")
    ∷ (60, "ParentTaskID")
    ∷ (61, "ResourceID")
    ∷ (62, "CustomFieldID")
    ∷ (63, "ResourceID")
    ∷ (64, "TaskID")
    -- "65, 66, 71, 72, 76 and 77 the one whose null is asked about"
    ∷ (65, "ContractorIDCode")
    ∷ (66, "EVMSAcceptanceDate")
    ∷ (71, "TaskPlanningLevelID")
    ∷ (72, "OtherEarnedValueTechnique")
    ∷ (76, "OtherConstraintType")
    ∷ (77, "ConstraintDate")
    -- "69 SundayWorkHours; 67, 73 and 74 ID"
    ∷ (69, "SundayWorkHours")
    ∷ (67, "ID")
    ∷ (73, "ID")
    ∷ (74, "ID")
    -- "78 Level; 79 and 80 ParentTaskID"
    ∷ (78, "Level")
    ∷ (79, "ParentTaskID")
    ∷ (80, "ParentTaskID")
    ∷ []

-- the deciding field's name in the file that the mark's rule judges
unfoldable pub shown_name : Table → ℕ → ℕ → List ℕ
shown_name t r mark = name_of (first_file_of (rule_of mark)) (deciding_field (rule_of mark) t r)

pub decided : (t : Table) (r : ℕ) → map (λ m. shown_name t r m.0) deciding ≡ map (λ m. codes m.1) deciding
unfolding open-reasons open-rows rule_of name_of deciding shown_name
decided t r = refl

-- ---- The others, 68, 70 and 75: the deciding field is one of the rule's run, of which these are the names
unfoldable pub names_from : ℕ → ℕ → ℕ → List (List ℕ)
names_from file k zero = []
names_from file k (suc n) = name_of file k ∷ names_from file (suc k) n

-- of fields `from` to `to`, which is none of them
unfoldable pub run_names : ℕ → ℕ → ℕ → List (List ℕ)
run_names file from to = names_from file from (to - from)

pub hours-of-68 : (rule_of 68 ≡ NoneBelow 7 2 9) × (run_names 7 2 9 ≡ map codes ("SundayWorkHours" ∷ "MondayWorkHours" ∷ "TuesdayWorkHours" ∷ "WednesdayWorkHours" ∷ "ThursdayWorkHours" ∷ "FridayWorkHours" ∷ "SaturdayWorkHours" ∷ []))
unfolding open-rows rule_of name_of names_from run_names
hours-of-68 = (refl, refl)

pub hours-of-70 : (rule_of 70 ≡ NoneBelow 8 2 3) × (run_names 8 2 3 ≡ map codes ("WorkHours" ∷ []))
unfolding open-rows rule_of name_of names_from run_names
hours-of-70 = (refl, refl)

pub fields-of-75 : (rule_of 75 ≡ Together 10 13 18) × (run_names 10 13 18 ≡ map codes ("BaselineDuration" ∷ "BaselineStartDate" ∷ "BaselineFinishDate" ∷ "StartVarianceDuration" ∷ "FinishVarianceDuration" ∷ []))
unfolding open-rows rule_of name_of names_from run_names
fields-of-75 = (refl, refl)

-- ---- "A missing target names the table searched": marks 48 to 64, each with its file, and no other
with_file : ℕ → Searched → List (ℕ × ℕ) → List (ℕ × ℕ)
with_file mark (In file) rest = (mark, file) ∷ rest
with_file mark Nowhere rest = rest

-- of these rules, of which the first has this mark
unfoldable pub searches : List Rule → ℕ → List (ℕ × ℕ)
unfolding with_file
searches [] mark = []
searches (rule ∷ rest) mark = with_file mark (searched_in rule) (searches rest (suc mark))

pub targets-searched : searches rules 20 ≡ (48, 4) ∷ (49, 6) ∷ (50, 6) ∷ (51, 9) ∷ (52, 6) ∷ (53, 9) ∷ (54, 11) ∷ (55, 9) ∷ (56, 9) ∷ (57, 9) ∷ (58, 6) ∷ (59, 9) ∷ (60, 9) ∷ (61, 16) ∷ (62, 17) ∷ (63, 16) ∷ (64, 9) ∷ []
unfolding open-reasons open-rows searches with_file
targets-searched = refl
