-- The contract side's gate as one value. Document 02, order 9: "Build a second gate over those four, in that order, in a bundle of
-- count 4 and a 36-byte header, with 19 marks". What the gate's calls answer, takes any gate.
use Rattle.std.specs.Prelude.{ℕ}
use mathlib.Core.List.{List, [], ◌∷◌, map, flatten}
use Rattle.table_file.specs.File.{Records, Expected}
use Rattle.contract_fields.specs.Fields.{contract_fields_of}
use Rattle.contract_rules.specs.Rules.{contract_rules}
use Rattle.gate_marks.specs.Gate.{Gate, gate_of}
use Rattle.schedule.specs.Schedule.{free, form_row}

-- "Any of the four may be omitted"; "all four files are arrays"
unfoldable pub contract_files : List Expected
contract_files =
    free (Records (contract_fields_of 0))
    ∷ free (Records (contract_fields_of 1))
    ∷ free (Records (contract_fields_of 2))
    ∷ free (Records (contract_fields_of 3))
    ∷ []

-- no rule names a value of an enumeration
unfoldable pub contract : Gate
contract = gate_of contract_files contract_rules [] []

-- ---- The files as the code has them: two numbers each, the form and whether it must be there
unfoldable pub contract_forms : List ℕ
contract_forms = flatten (map form_row contract_files)
