-- The names that a reader of a gate's answers meets: of its files, its tables and their fields. The baseline profile is a profile of
-- document 01's gate, over the same files.
use Rattle.std.specs.Prelude.{ℕ, false, List, [], ◌∷◌, get_or}
use Rattle.table_rows.specs.Rows.{Field, fields_in}
use Rattle.table_fields.specs.Fields.{fields_of}
use Rattle.json_bytes.specs.Ascii.{codes}
use Rattle.contract_fields.specs.Fields.{contract_fields_of}
use Rattle.file_names.specs.Names.{file_name, table_name, up_to_dot}
use Rattle.gate_lists.specs.declared.Which.{Which}
use Rattle.gate_lists.specs.declared.Which.TheVariants.{Schedule, Baseline, Contract}

-- the files of the contract side, as document 000 names its tables
unfoldable pub contract_file_names : List (List ℕ)
contract_file_names = codes "Subcontractors.json" ∷ codes "WBS.json" ∷ codes "OBS.json" ∷ codes "ControlAccounts.json" ∷ []

unfoldable pub contract_file : ℕ → List ℕ
contract_file file = get_or contract_file_names file []

unfoldable pub file_name_of : Which → ℕ → List ℕ
file_name_of Schedule file = file_name file
file_name_of Baseline file = file_name file
file_name_of Contract file = contract_file file

unfoldable pub table_name_of : Which → ℕ → List ℕ
table_name_of Schedule file = table_name file
table_name_of Baseline file = table_name file
table_name_of Contract file = up_to_dot (contract_file file)

unfoldable pub table_fields : Which → ℕ → List Field
table_fields Schedule file = fields_of file
table_fields Baseline file = fields_of file
table_fields Contract file = contract_fields_of file

-- the name of one of these fields, counted from 0; none where there is no such field
abbrev pub no_field : Field
no_field = record { name = []; type = 0; nullable = false }

unfoldable pub name_among : List Field → ℕ → List ℕ
name_among fields field = (get_or fields field no_field).name

unfoldable pub field_name_of : Which → ℕ → ℕ → List ℕ
field_name_of which file field = name_among (table_fields which file) field

-- the same, read back from lent rows
unfoldable pub name_in_rows : List ℕ → List ℕ → ℕ → ℕ → List ℕ
name_in_rows rows names file field = name_among (fields_in rows names file) field
