-- The names under which the 20 files of a set stand in a folder: document 01, "File numbers", with the endings that
-- document 002 gives the tables.
use Rattle.std.specs.Prelude.{ℕ, cond, List, [], ◌∷◌, get_or, eqb}
use Rattle.json_bytes.specs.Ascii.{codes}

unfoldable pub file_names : List (List ℕ)
file_names =
    codes "FileType.txt" ∷
    codes "DatasetMetadata.json" ∷
    codes "SourceSoftwareMetadata.json" ∷
    codes "ProjectScheduleData.json" ∷
    codes "ProjectCustomFieldDefinitions.json" ∷
    codes "ProjectCustomFieldValues.json" ∷
    codes "Calendars.json" ∷
    codes "CalendarWorkshifts.json" ∷
    codes "CalendarExceptions.json" ∷
    codes "Tasks.json" ∷
    codes "TaskScheduleData.json" ∷
    codes "TaskCustomFieldDefinitions.json" ∷
    codes "TaskCustomFieldValues.json" ∷
    codes "TaskConstraints.json" ∷
    codes "TaskRelationships.json" ∷
    codes "TaskOutlineStructure.json" ∷
    codes "Resources.json" ∷
    codes "ResourceCustomFieldDefinitions.json" ∷
    codes "ResourceCustomFieldValues.json" ∷
    codes "ResourceAssignments.json" ∷ []

-- a file's name; nothing for a number over 19
unfoldable pub file_name : ℕ → List ℕ
file_name file = get_or file_names file []

-- a table's name: that of its file up to the dot
unfoldable pub up_to_dot : List ℕ → List ℕ
up_to_dot [] = []
up_to_dot (b ∷ name) = cond (eqb b 46) [] (b ∷ up_to_dot name)

unfoldable pub table_name : ℕ → List ℕ
table_name file = up_to_dot (file_name file)
