-- The fields of each table, document 002, section 2.2: in its order, under its names, with its types and its column
-- "Nullable". The tables stand under the file numbers of document 01.
use Rattle.std.specs.Prelude.{ℕ, Bool, true, false, List, [], ◌∷◌, get_or}
use Prim.Native.String.{String}
use Rattle.json_bytes.specs.Ascii.{codes}
use Rattle.table_rows.specs.Rows.{Field}
use Rattle.table_rows.specs.Types.{boolean, date, decimal_type, integer, string, string_id, text}

-- the column "Nullable": No, Yes and Conditional, which counts as nullable
abbrev pub required : Bool
required = false

abbrev pub optional : Bool
optional = true

abbrev pub conditional : Bool
conditional = true

abbrev pub field : String → ℕ → Bool → Field
field n t u = record { name = codes n; type = t; nullable = u }

-- 2.2.1
abbrev pub dataset_metadata : List Field
dataset_metadata =
    field "SecurityMarking" string required
    ∷ field "DistributionStatement" text optional
    ∷ field "ReportingPeriodEndDate" date required
    ∷ field "ContractorName" string optional
    ∷ field "ContractorIDCodeTypeID" string_id optional
    ∷ field "ContractorIDCode" string conditional
    ∷ field "ContractorAddress_Street" text optional
    ∷ field "ContractorAddress_City" string optional
    ∷ field "ContractorAddress_State" string optional
    ∷ field "ContractorAddress_Country" string optional
    ∷ field "ContractorAddress_ZipCode" string optional
    ∷ field "PointOfContactName" string optional
    ∷ field "PointOfContactTitle" string optional
    ∷ field "PointOfContactTelephone" string optional
    ∷ field "PointOfContactEmail" string optional
    ∷ field "ContractName" string optional
    ∷ field "ContractNumber" string optional
    ∷ field "ContractType" string optional
    ∷ field "ContractTaskOrEffortName" string optional
    ∷ field "ProgramName" string optional
    ∷ field "ProgramPhase" string optional
    ∷ field "EVMSAccepted" boolean optional
    ∷ field "EVMSAcceptanceDate" date conditional
    ∷ []

-- 2.2.2
abbrev pub source_software_metadata : List Field
source_software_metadata =
    field "Data_SoftwareName" string optional
    ∷ field "Data_SoftwareVersion" string optional
    ∷ field "Data_SoftwareCompanyName" string optional
    ∷ field "Data_SoftwareComments" text optional
    ∷ field "Export_SoftwareName" string optional
    ∷ field "Export_SoftwareVersion" string optional
    ∷ field "Export_SoftwareCompanyName" string optional
    ∷ field "Export_SoftwareComments" text optional
    ∷ []

-- 2.2.3
abbrev pub project_schedule_data : List Field
project_schedule_data =
    field "StatusDate" date required
    ∷ field "CurrentStartDate" date required
    ∷ field "CurrentFinishDate" date required
    ∷ field "BaselineStartDate" date optional
    ∷ field "BaselineFinishDate" date optional
    ∷ field "ActualStartDate" date optional
    ∷ field "ActualFinishDate" date optional
    ∷ field "DurationUnitsID" string_id required
    ∷ []

-- 2.2.4
abbrev pub project_custom_field_definitions : List Field
project_custom_field_definitions =
    field "CustomFieldID" string_id required
    ∷ field "Name" string required
    ∷ field "Comments" text optional
    ∷ []

-- 2.2.5
abbrev pub project_custom_field_values : List Field
project_custom_field_values =
    field "CustomFieldID" string_id required
    ∷ field "Value" string required
    ∷ []

-- 2.2.6
abbrev pub calendars : List Field
calendars =
    field "ID" string_id required
    ∷ field "Name" string required
    ∷ field "Comments" text optional
    ∷ []

-- 2.2.7
abbrev pub calendar_workshifts : List Field
calendar_workshifts =
    field "CalendarID" string_id required
    ∷ field "Ordinal" integer optional
    ∷ field "SundayWorkHours" decimal_type optional
    ∷ field "MondayWorkHours" decimal_type optional
    ∷ field "TuesdayWorkHours" decimal_type optional
    ∷ field "WednesdayWorkHours" decimal_type optional
    ∷ field "ThursdayWorkHours" decimal_type optional
    ∷ field "FridayWorkHours" decimal_type optional
    ∷ field "SaturdayWorkHours" decimal_type optional
    ∷ []

-- 2.2.8
abbrev pub calendar_exceptions : List Field
calendar_exceptions =
    field "CalendarID" string_id required
    ∷ field "ExceptionDate" date required
    ∷ field "WorkHours" decimal_type optional
    ∷ []

-- 2.2.9
abbrev pub tasks : List Field
tasks =
    field "ID" string_id required
    ∷ field "Name" string required
    ∷ field "TaskTypeID" string_id required
    ∷ field "TaskSubtypeID" string_id optional
    ∷ field "TaskPlanningLevelID" string_id conditional
    ∷ field "WBSElementID" string_id optional
    ∷ field "OBSElementID" string_id optional
    ∷ field "ControlAccountID" string_id optional
    ∷ field "WorkPackageID" string_id optional
    ∷ field "IMPElementID" string_id optional
    ∷ field "SOWReference" string optional
    ∷ field "SubcontractorReference" string optional
    ∷ field "EarnedValueTechniqueID" string_id optional
    ∷ field "OtherEarnedValueTechnique" string conditional
    ∷ field "SourceSubprojectReference" string optional
    ∷ field "SourceTaskReference" string optional
    ∷ field "Comments" text optional
    ∷ []

-- 2.2.10
abbrev pub task_schedule_data : List Field
task_schedule_data =
    field "TaskID" string_id required
    ∷ field "CalendarID" string_id required
    ∷ field "CurrentDuration" decimal_type required
    ∷ field "CurrentStartDate" date required
    ∷ field "CurrentFinishDate" date required
    ∷ field "EarlyStartDate" date required
    ∷ field "EarlyFinishDate" date required
    ∷ field "LateStartDate" date required
    ∷ field "LateFinishDate" date required
    ∷ field "FreeFloatDuration" decimal_type required
    ∷ field "TotalFloatDuration" decimal_type required
    ∷ field "OnCriticalPath" boolean required
    ∷ field "OnDrivingPath" boolean optional
    ∷ field "BaselineDuration" decimal_type optional
    ∷ field "BaselineStartDate" date optional
    ∷ field "BaselineFinishDate" date optional
    ∷ field "StartVarianceDuration" decimal_type optional
    ∷ field "FinishVarianceDuration" decimal_type optional
    ∷ field "CalculatedPercentComplete" decimal_type required
    ∷ field "PhysicalPercentComplete" decimal_type optional
    ∷ field "RemainingDuration" decimal_type required
    ∷ field "ActualStartDate" date optional
    ∷ field "ActualFinishDate" date optional
    ∷ []

-- 2.2.11
abbrev pub task_custom_field_definitions : List Field
task_custom_field_definitions =
    field "CustomFieldID" string_id required
    ∷ field "Name" string required
    ∷ field "Comments" text optional
    ∷ []

-- 2.2.12
abbrev pub task_custom_field_values : List Field
task_custom_field_values =
    field "TaskID" string_id required
    ∷ field "CustomFieldID" string_id required
    ∷ field "Value" string required
    ∷ []

-- 2.2.13
abbrev pub task_constraints : List Field
task_constraints =
    field "TaskID" string_id required
    ∷ field "ConstraintTypeID" string_id required
    ∷ field "OtherConstraintType" string conditional
    ∷ field "ConstraintDate" date conditional
    ∷ []

-- 2.2.14
abbrev pub task_relationships : List Field
task_relationships =
    field "PredecessorTaskID" string_id required
    ∷ field "SuccessorTaskID" string_id required
    ∷ field "RelationshipTypeID" string_id required
    ∷ field "LagDuration" decimal_type optional
    ∷ field "LagCalendarID" string_id optional
    ∷ []

-- 2.2.15
abbrev pub task_outline_structure : List Field
task_outline_structure =
    field "Level" integer required
    ∷ field "TaskID" string_id required
    ∷ field "ParentTaskID" string_id conditional
    ∷ []

-- 2.2.16
abbrev pub resources : List Field
resources =
    field "ID" string_id required
    ∷ field "Name" string required
    ∷ field "ElementOfCostID" string_id required
    ∷ field "Comments" text optional
    ∷ []

-- 2.2.17
abbrev pub resource_custom_field_definitions : List Field
resource_custom_field_definitions =
    field "CustomFieldID" string_id required
    ∷ field "Name" string required
    ∷ field "Comments" text optional
    ∷ []

-- 2.2.18
abbrev pub resource_custom_field_values : List Field
resource_custom_field_values =
    field "ResourceID" string_id required
    ∷ field "CustomFieldID" string_id required
    ∷ field "Value" string required
    ∷ []

-- 2.2.19
abbrev pub resource_assignments : List Field
resource_assignments =
    field "ResourceID" string_id required
    ∷ field "TaskID" string_id required
    ∷ field "Budget_AtCompletion_Dollars" decimal_type optional
    ∷ field "Budget_AtCompletion_Hours" decimal_type optional
    ∷ field "Estimate_ToComplete_Dollars" decimal_type optional
    ∷ field "Estimate_ToComplete_Hours" decimal_type optional
    ∷ field "Actual_ToDate_Dollars" decimal_type optional
    ∷ field "Actual_ToDate_Hours" decimal_type optional
    ∷ field "PhysicalPercentComplete" decimal_type optional
    ∷ []

-- file 0, FileType.txt, is no table
unfoldable pub tables : List (List Field)
tables =
    []
    ∷ dataset_metadata
    ∷ source_software_metadata
    ∷ project_schedule_data
    ∷ project_custom_field_definitions
    ∷ project_custom_field_values
    ∷ calendars
    ∷ calendar_workshifts
    ∷ calendar_exceptions
    ∷ tasks
    ∷ task_schedule_data
    ∷ task_custom_field_definitions
    ∷ task_custom_field_values
    ∷ task_constraints
    ∷ task_relationships
    ∷ task_outline_structure
    ∷ resources
    ∷ resource_custom_field_definitions
    ∷ resource_custom_field_values
    ∷ resource_assignments
    ∷ []

-- the fields of a file by its number; a number over 19 has none
unfoldable pub fields_of : ℕ → List Field
fields_of t = get_or tables t []

-- what FileType.txt holds: document 01, kind 22, "the 39 bytes"
unfoldable pub file_type : List ℕ
file_type = codes "IPMDAR_SCHEDULE_PERFORMANCE_DATASET/1.0"
