-- The values (IDs) of each enumeration, document 002, section 2.4, in its order: enumeration e is section 2.4.e.
use Rattle.std.specs.Prelude.{ℕ, List, [], ◌∷◌, get_or}
use Rattle.json_bytes.specs.Ascii.{codes}

-- 2.4.1
abbrev pub contractor_id_code_type_enum : List (List ℕ)
contractor_id_code_type_enum =
    codes "DUNS"
    ∷ codes "DUNS_PLUS_4"
    ∷ codes "CAGE"
    ∷ []

-- 2.4.2
abbrev pub duration_units_enum : List (List ℕ)
duration_units_enum =
    codes "DAYS"
    ∷ codes "HOURS"
    ∷ []

-- 2.4.3
abbrev pub task_type_enum : List (List ℕ)
task_type_enum =
    codes "ACTIVITY"
    ∷ codes "MILESTONE"
    ∷ codes "SUMMARY"
    ∷ codes "HAMMOCK"
    ∷ []

-- 2.4.4
abbrev pub task_subtype_enum : List (List ℕ)
task_subtype_enum =
    codes "RISK_MITIGATION_TASK"
    ∷ codes "SCHEDULE_VISIBILITY_TASK"
    ∷ codes "SCHEDULE_MARGIN"
    ∷ codes "CONTRACTUAL_MILESTONE"
    ∷ []

-- 2.4.5
abbrev pub task_planning_level_enum : List (List ℕ)
task_planning_level_enum =
    codes "SUMMARY_LEVEL_PLANNING_PACKAGE"
    ∷ codes "CONTROL_ACCOUNT"
    ∷ codes "PLANNING_PACKAGE"
    ∷ codes "WORK_PACKAGE"
    ∷ codes "ACTIVITY"
    ∷ []

-- 2.4.6
abbrev pub earned_value_technique_enum : List (List ℕ)
earned_value_technique_enum =
    codes "APPORTIONED_EFFORT"
    ∷ codes "LEVEL_OF_EFFORT"
    ∷ codes "MILESTONE"
    ∷ codes "FIXED_0_100"
    ∷ codes "FIXED_100_0"
    ∷ codes "FIXED_X_Y"
    ∷ codes "PERCENT_COMPLETE"
    ∷ codes "STANDARDS"
    ∷ codes "UNITS"
    ∷ codes "OTHER_DISCRETE"
    ∷ []

-- 2.4.7
abbrev pub task_constraint_type_enum : List (List ℕ)
task_constraint_type_enum =
    codes "START_NO_EARLIER_THAN"
    ∷ codes "FINISH_NO_EARLIER_THAN"
    ∷ codes "START_NO_LATER_THAN"
    ∷ codes "FINISH_NO_LATER_THAN"
    ∷ codes "MUST_START_ON"
    ∷ codes "MUST_FINISH_ON"
    ∷ codes "AS_LATE_AS_POSSIBLE"
    ∷ codes "SHOULD_START_NO_LATER_THAN"
    ∷ codes "SHOULD_FINISH_NO_LATER_THAN"
    ∷ codes "SHOULD_START_ON"
    ∷ codes "SHOULD_FINISH_ON"
    ∷ codes "RESOURCE_LEVELING_START_DELAY"
    ∷ codes "RESOURCE_LEVELING_FINISH_DELAY"
    ∷ codes "DEADLINE"
    ∷ codes "OTHER"
    ∷ []

-- 2.4.8
abbrev pub task_relationship_type_enum : List (List ℕ)
task_relationship_type_enum =
    codes "FINISH_TO_START"
    ∷ codes "START_TO_START"
    ∷ codes "FINISH_TO_FINISH"
    ∷ codes "START_TO_FINISH"
    ∷ []

-- 2.4.9
abbrev pub element_of_cost_enum : List (List ℕ)
element_of_cost_enum =
    codes "LABOR"
    ∷ codes "MATERIAL"
    ∷ codes "OTHER_DIRECT_COSTS"
    ∷ codes "SUBCONTRACT"
    ∷ []

-- 2.4.10
abbrev pub custom_field_enum : List (List ℕ)
custom_field_enum =
    codes "FIELD_01"
    ∷ codes "FIELD_02"
    ∷ codes "FIELD_03"
    ∷ codes "FIELD_04"
    ∷ codes "FIELD_05"
    ∷ codes "FIELD_06"
    ∷ codes "FIELD_07"
    ∷ codes "FIELD_08"
    ∷ codes "FIELD_09"
    ∷ codes "FIELD_10"
    ∷ []

-- they are numbered from 1
unfoldable pub enumerations : List (List (List ℕ))
enumerations =
    []
    ∷ contractor_id_code_type_enum
    ∷ duration_units_enum
    ∷ task_type_enum
    ∷ task_subtype_enum
    ∷ task_planning_level_enum
    ∷ earned_value_technique_enum
    ∷ task_constraint_type_enum
    ∷ task_relationship_type_enum
    ∷ element_of_cost_enum
    ∷ custom_field_enum
    ∷ []

-- the values of an enumeration by its number; a number over 10 has none
unfoldable pub values_of : ℕ → List (List ℕ)
values_of e = get_or enumerations e []
