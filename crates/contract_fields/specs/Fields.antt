-- The fields of the four tables of the contract side, document 000, section 2.2: in its order, under its names, with its types and its
-- column "Nullable". The tables stand under the file numbers of document 02, order 9: "Subcontractors, WBS, OBS and ControlAccounts
-- .. in that order".
use Rattle.std.specs.Prelude.{ℕ, get_or}
use mathlib.Core.List.{List, [], ◌∷◌, flatten}
use Rattle.table_rows.specs.Rows.{Field}
use Rattle.table_rows.specs.Types.{boolean, date, integer, string, string_id}
use Rattle.table_fields.specs.Fields.{required, optional, conditional, field}
use Rattle.table_fields.specs.Flat.{names_of, rows_of}

-- 2.2.9 Subcontractors
abbrev pub subcontractors : List Field
subcontractors =
    field "ID" string_id required
    ∷ field "Name" string required
    ∷ []

-- 2.2.10 WBS
abbrev pub wbs : List Field
wbs =
    field "Level" integer required
    ∷ field "ID" string_id required
    ∷ field "Name" string required
    ∷ field "ParentID" string_id conditional
    ∷ []

-- 2.2.11 OBS
abbrev pub obs : List Field
obs =
    field "Level" integer required
    ∷ field "ID" string_id required
    ∷ field "Name" string required
    ∷ field "SubcontractorID" string_id optional
    ∷ field "ParentID" string_id conditional
    ∷ []

-- 2.2.12 ControlAccounts
abbrev pub control_accounts : List Field
control_accounts =
    field "IsSummaryLevelPlanningPackage" boolean optional
    ∷ field "ID" string_id required
    ∷ field "Name" string required
    ∷ field "BaselineStartDate" date optional
    ∷ field "BaselineEndDate" date optional
    ∷ field "ForecastStartDate" date optional
    ∷ field "ForecastEndDate" date optional
    ∷ field "ActualStartDate" date optional
    ∷ field "ActualEndDate" date optional
    ∷ field "ManagerName" string optional
    ∷ field "WBSElementID" string_id required
    ∷ field "OBSElementID" string_id required
    ∷ []

unfoldable pub contract_tables : List (List Field)
contract_tables = subcontractors ∷ wbs ∷ obs ∷ control_accounts ∷ []

-- the fields of a file by its number; a number over 3 has none
unfoldable pub contract_fields_of : ℕ → List Field
contract_fields_of file = get_or contract_tables file []

-- ---- Laid out flat, as the code holds them: five numbers a field, and the names one behind the other
unfoldable pub contract_field_rows : List ℕ
contract_field_rows = rows_of 0 0 contract_tables

unfoldable pub contract_field_names : List ℕ
contract_field_names = names_of (flatten contract_tables)
