-- The sentences of document 02, order 6: "A new program prints this for every mark that doesn't hold." It fixes no words;
-- these tell what is wrong and what to do. A sign that stands for something else is a slot: see `Wording`.
use Rattle.std.specs.Prelude.{ℕ, ◌+◌, ◌-◌, cond, List, [], ◌∷◌, get_or, ltb, eqb}
use Rattle.json_bytes.specs.Ascii.{codes}
use Rattle.gate_lists.specs.declared.Which.{Which}
use Rattle.gate_lists.specs.declared.Which.TheVariants.{Schedule, Baseline, Contract}

unfoldable pub sentences : List (List ℕ)
sentences =
    -- marks 20 to 80, one rule each
    codes "@ record #: $ % is defined in & already. Define a custom field once; take one of the two records out."
    ∷ codes "@ record #: $ % has its value in & already. Give a custom field of the project one value; take one of the two records out."
    ∷ codes "@ record #: $ % is that of & too; capital and small letters count as the same. Give each calendar an ID of its own."
    ∷ codes "@ record #: $ % stands with the same Ordinal in & already; without one it counts as 0. Give each workshift of a calendar an Ordinal of its own."
    ∷ codes "@ record #: $ % has an exception on the same ExceptionDate in & already. Give a calendar one exception for a day."
    ∷ codes "@ record #: $ % is that of & too; capital and small letters count as the same. Give each task an ID of its own."
    ∷ codes "@ record #: $ % has schedule data in & already. Give each task one record of schedule data."
    ∷ codes "@ record #: $ % is defined in & already. Define a custom field once; take one of the two records out."
    ∷ codes "@ record #: $ % has a value for the same CustomFieldID in & already. Give a task one value for each custom field."
    ∷ codes "@ record #: $ % has a constraint of the same ConstraintTypeID in & already. Give a task one constraint of each type."
    ∷ codes "@ record #: $ % has a link to the same SuccessorTaskID of the same RelationshipTypeID in & already. Take one of the two links out."
    ∷ codes "@ record #: $ % stands in & already. Give each task one place in the outline."
    ∷ codes "@ record #: $ % is that of & too; capital and small letters count as the same. Give each resource an ID of its own."
    ∷ codes "@ record #: $ % is defined in & already. Define a custom field once; take one of the two records out."
    ∷ codes "@ record #: $ % has a value for the same CustomFieldID in & already. Give a resource one value for each custom field."
    ∷ codes "@ record #: $ % is assigned to the same TaskID in & already. Make one assignment of the two."
    ∷ codes "@: $ % is no type of code. Write DUNS, DUNS_PLUS_4 or CAGE."
    ∷ codes "@: $ % is no unit of duration. Write DAYS or HOURS."
    ∷ codes "@ record #: $ % is no custom field. Write one of FIELD_01, FIELD_02 and so on up to FIELD_10."
    ∷ codes "@ record #: $ % is no type of task. Write ACTIVITY, MILESTONE, SUMMARY or HAMMOCK."
    ∷ codes "@ record #: $ % is no subtype of task. Write RISK_MITIGATION_TASK, SCHEDULE_VISIBILITY_TASK, SCHEDULE_MARGIN or CONTRACTUAL_MILESTONE, or leave it out."
    ∷ codes "@ record #: $ % is no planning level. Write SUMMARY_LEVEL_PLANNING_PACKAGE, CONTROL_ACCOUNT, PLANNING_PACKAGE, WORK_PACKAGE or ACTIVITY."
    ∷ codes "@ record #: $ % is no earned value technique. Write APPORTIONED_EFFORT, LEVEL_OF_EFFORT, MILESTONE, FIXED_0_100, FIXED_100_0, FIXED_X_Y, PERCENT_COMPLETE, STANDARDS, UNITS or OTHER_DISCRETE."
    ∷ codes "@ record #: $ % is no custom field. Write one of FIELD_01, FIELD_02 and so on up to FIELD_10."
    ∷ codes "@ record #: $ % is no type of constraint. Write START_NO_EARLIER_THAN, FINISH_NO_EARLIER_THAN, START_NO_LATER_THAN, FINISH_NO_LATER_THAN, MUST_START_ON, MUST_FINISH_ON, AS_LATE_AS_POSSIBLE, SHOULD_START_NO_LATER_THAN, SHOULD_FINISH_NO_LATER_THAN, SHOULD_START_ON, SHOULD_FINISH_ON, RESOURCE_LEVELING_START_DELAY, RESOURCE_LEVELING_FINISH_DELAY, DEADLINE or OTHER."
    ∷ codes "@ record #: $ % is no type of link. Write FINISH_TO_START, START_TO_START, FINISH_TO_FINISH or START_TO_FINISH."
    ∷ codes "@ record #: $ % is no element of cost. Write LABOR, MATERIAL, OTHER_DIRECT_COSTS or SUBCONTRACT."
    ∷ codes "@ record #: $ % is no custom field. Write one of FIELD_01, FIELD_02 and so on up to FIELD_10."
    ∷ codes "@ record #: $ % is not the CustomFieldID of any record in ^. Define it there, or take the value out."
    ∷ codes "@ record #: $ % is not the ID of any record in ^. Add that calendar, or name one that is there."
    ∷ codes "@ record #: $ % is not the ID of any record in ^. Add that calendar, or name one that is there."
    ∷ codes "@ record #: $ % is not the ID of any record in ^. Add that task, or take its schedule data out."
    ∷ codes "@ record #: $ % is not the ID of any record in ^. Add that calendar, or name one that is there."
    ∷ codes "@ record #: $ % is not the ID of any record in ^. Add that task, or take its value out."
    ∷ codes "@ record #: $ % is not the CustomFieldID of any record in ^. Define it there, or take the value out."
    ∷ codes "@ record #: $ % is not the ID of any record in ^. Add that task, or take its constraint out."
    ∷ codes "@ record #: $ % is not the ID of any record in ^. Add that task, or take the link out."
    ∷ codes "@ record #: $ % is not the ID of any record in ^. Add that task, or take the link out."
    ∷ codes "@ record #: $ % is not the ID of any record in ^. Add that calendar, or name one that is there."
    ∷ codes "@ record #: $ % is not the ID of any record in ^. Add that task, or take it out of the outline."
    ∷ codes "@ record #: $ % is not the ID of any record in ^. Add that task, or name the parent that is there."
    ∷ codes "@ record #: $ % is not the ID of any record in ^. Add that resource, or take its value out."
    ∷ codes "@ record #: $ % is not the CustomFieldID of any record in ^. Define it there, or take the value out."
    ∷ codes "@ record #: $ % is not the ID of any record in ^. Add that resource, or take the assignment out."
    ∷ codes "@ record #: $ % is not the ID of any record in ^. Add that task, or take the assignment out."
    ∷ codes "@: $ % is given without a ContractorIDCodeTypeID. Give the type of the code, or take the code out."
    ∷ codes "@: $ % is given though EVMSAccepted is not true. Set EVMSAccepted to true, or take the date out."
    ∷ codes "@ record #: $ % is the CalendarID of no record in CalendarWorkshifts. Give each calendar a workshift."
    ∷ codes "@ record #: $ % is below zero. Give hours of 0 or more."
    ∷ codes "@ record #: no day from SundayWorkHours to SaturdayWorkHours has hours above zero; $ is %. Give a day its hours."
    ∷ codes "@ record #: $ % is below zero. Give hours of 0 or more."
    ∷ codes "@ record #: $ is not given, and TaskTypeID is ACTIVITY. Give each activity its planning level."
    ∷ codes "@ record #: $ % is given, but EarnedValueTechniqueID is neither OTHER_DISCRETE nor FIXED_X_Y. Take it out, or correct the technique."
    ∷ codes "@ record #: $ % is the TaskID of no record in TaskScheduleData. Give each task its schedule data."
    ∷ codes "@ record #: $ % is that of a SUMMARY task and the TaskID of no record in TaskOutlineStructure. Put each SUMMARY task into the outline."
    ∷ codes "@ record #: $ is not given, but others of the five baseline and variance fields are. Give all of BaselineDuration, BaselineStartDate, BaselineFinishDate, StartVarianceDuration and FinishVarianceDuration, or none."
    ∷ codes "@ record #: $ % is given, but ConstraintTypeID is not OTHER. Take it out, or correct the type."
    ∷ codes "@ record #: $ is not given. Give the date; only the types AS_LATE_AS_POSSIBLE and OTHER may go without one."
    ∷ codes "@ record #: $ % does not fit. The first record has $ 1; each later one has at least 1 and at most one more than the record before."
    ∷ codes "@ record #: $ is %, and the parent by Level is &. A record of Level 1 has no $; any other has the TaskID of its parent, the nearest earlier record of lower Level."
    ∷ codes "@ record #: no SUMMARY task has the TaskID of the parent by Level, &; $ is %. Make the parent's task one of type SUMMARY."
    -- 81 to 84 of the baseline profile
    ∷ codes "@ record #: $ is not given. A baseline gives each record all of BaselineDuration, BaselineStartDate, BaselineFinishDate, StartVarianceDuration and FinishVarianceDuration."
    ∷ codes "@ record #: $ % is given, but a baseline has no progress in it. Take ActualStartDate and ActualFinishDate out."
    ∷ codes "@ record #: $ % is after BaselineFinishDate. Correct one of the two; they may be the same day."
    ∷ codes "@ record #: $ % is given, but a baseline has no progress in it; 0 counts as given too. Take Actual_ToDate_Dollars and Actual_ToDate_Hours out."
    -- a file's own mark, by its kind: 10 to 22, of which 16 is never given
    ∷ codes "! ~: the text is not UTF-8 here. Save the file in UTF-8."
    ∷ codes "! ~: no JSON text goes on like this. Look for a comma, quote or bracket too many or too few, a comment, a byte order mark, or a file that was cut off."
    ∷ codes "! ~: the value that starts here does not belong here. DatasetMetadata, SourceSoftwareMetadata and ProjectScheduleData are one object in braces each; every other file is an array of objects."
    ∷ codes "! ~, record #: the name that starts here is no field of this table. Write names as the format has them, capitals included, or take this one out."
    ∷ codes "! ~, record #: this name stands in the record a second time. Take one of the two out."
    ∷ codes "! ~, record #: the value that starts here is of the wrong kind for its field. Write text and dates in quotes, numbers without, and true or false for yes or no."
    ∷ codes ""
    ∷ codes "! ~, record #: this is no date. Write year, month and day as in 2026-01-31, a day that the month has."
    ∷ codes "! ~, record #: the number is outside the limits. It may have 15 digits, zeros at the end not counted, and a power of ten from -15 to 15; a whole number is at most 999999999999999 either way."
    ∷ codes "! ~: the record that ends here lacks a mandatory value, or has it null or empty. Give each mandatory field of this table its value."
    ∷ codes "! ~: record 4097 starts here. A file may have 4096 records; take the others out."
    ∷ codes "! is missing. Add it; a set must have it."
    ∷ codes "! does not consist of the 39 bytes IPMDAR_SCHEDULE_PERFORMANCE_DATASET/1.0. Write these alone, with no line feed, space or byte order mark."
    -- and 30 to 34
    ∷ codes "! ~, record #: a control character that is barred. Take it out."
    ∷ codes "! ~, record #: a space that may not be here. Leave single spaces inside the text, none at its ends, and no tab, line break or other kind of space."
    ∷ codes "! ~, record #: a character that no ID may have. Use letters without accents, digits, spaces and the signs of a plain keyboard."
    ∷ codes "! ~, record #: half of a surrogate pair. Write the whole character, or both halves."
    ∷ codes "! ~, record #: this number must be whole. Write it without a fraction."
    -- a rule that is not judged; then what the folder's program says once of a file that keeps # marks, or one, from being judged
    ∷ codes "Not judged, since ! does not hold. Mend that file first."
    ∷ codes "! does not hold, so that # marks which read it were not judged. Mend that file first."
    ∷ codes "! does not hold, so that 1 mark which reads it was not judged. Mend that file first."
    ∷ []

-- those of the contract side's gate alone, in a list of their own
unfoldable pub contract_sentences : List (List ℕ)
contract_sentences =
    -- its marks 4 to 18, one rule each
    codes "@ record #: $ % is that of & too; capital and small letters count as the same. Give each subcontractor an ID of its own."
    ∷ codes "@ record #: $ % is that of & too; capital and small letters count as the same. Give each WBS element an ID of its own."
    ∷ codes "@ record #: $ % is that of & too; capital and small letters count as the same. Give each OBS element an ID of its own."
    ∷ codes "@ record #: $ % is that of & too; capital and small letters count as the same. Give each control account an ID of its own."
    ∷ codes "@ record #: $ % is not the ID of any record in ^. Add that subcontractor, or name one that is there."
    ∷ codes "@ record #: $ % is not the ID of any record in ^. Add that element, or name the parent that is there."
    ∷ codes "@ record #: $ % is not the ID of any record in ^. Add that element, or name the parent that is there."
    ∷ codes "@ record #: $ % is not the ID of any record in ^. Add that element, or name one that is there."
    ∷ codes "@ record #: $ % is not the ID of any record in ^. Add that element, or name one that is there."
    ∷ codes "@ record #: $ % does not fit. The first record has $ 1; each later one has at least 2 and at most one more than the record before."
    ∷ codes "@ record #: $ % does not fit. The first record has $ 1; each later one has at least 2 and at most one more than the record before."
    ∷ codes "@ record #: $ is %, and the parent by Level is &. The first record has no $; any other has the ID of its parent, the nearest earlier record of lower Level."
    ∷ codes "@ record #: $ is %, and the parent by Level is &. The first record has no $; any other has the ID of its parent, the nearest earlier record of lower Level."
    ∷ codes "@ record #: $ % is the ID of an element in WBS that has others below it. Name an element with none below it."
    ∷ codes "@ record #: $ % is the ID of an element in OBS that has others below it. Name an element with none below it."
    -- kind 12 of a file's own mark; the other kinds have the sentences above
    ∷ codes "! ~: the value that starts here does not belong here. Each file of this set is an array of objects."
    ∷ []

-- a sentence by its number: up to 85 among the first, from 100 on among those of the contract side; else none
unfoldable pub sentence_at : ℕ → List ℕ
sentence_at n = cond (ltb n 100) (get_or sentences n []) (get_or contract_sentences (n - 100) [])

-- where nothing is to be said
abbrev pub nothing : ℕ
nothing = 86

-- the number of a rule's sentence by its mark, and of a file's own mark's by its kind
unfoldable pub of_rule : Which → ℕ → ℕ
of_rule Schedule mark = mark - 20
of_rule Baseline mark = mark - 20
of_rule Contract mark = cond (ltb mark 19) (mark + 96) nothing

unfoldable pub kind_among : ℕ → ℕ
kind_among kind = cond (ltb kind 30) (kind + 55) (kind + 48)

unfoldable pub of_kind : Which → ℕ → ℕ
of_kind Schedule kind = kind_among kind
of_kind Baseline kind = kind_among kind
of_kind Contract kind = cond (eqb kind 12) 115 (kind_among kind)

abbrev pub not_judged_sentence : ℕ
not_judged_sentence = 83

abbrev pub keeps_many : ℕ
keeps_many = 84

abbrev pub keeps_one : ℕ
keeps_one = 85
