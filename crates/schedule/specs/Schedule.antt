-- Document 01's gate as one value: its files in the order of their numbers, and its rules in the order of their marks.
use Rattle.std.specs.Prelude.{ℕ, true, false, cond}
use mathlib.Core.List.{List, [], ◌∷◌, map, flatten}
use Rattle.table_fields.specs.Fields.{fields_of}
use Rattle.table_fields.specs.Fields.{file_type}
use Rattle.table_fields.specs.Flat.{value_places, value_texts}
use Rattle.table_file.specs.File.{Form, Fixed, Single, Records, Expected}
use Rattle.schedule_rules.specs.Rules.{rules}
use Rattle.gate_marks.specs.Gate.{Gate, gate_of}

-- "file 0, 1 or 3 omitted" is a fault; "Any other omitted file holds and has no records."
unfoldable pub due : Form → Expected
due form = record { form = form; required = true }

unfoldable pub free : Form → Expected
free form = record { form = form; required = false }

-- "File numbers": file 0 is the 39 bytes, 1 to 3 are singletons
unfoldable pub expected_files : List Expected
expected_files =
    due (Fixed file_type)
    ∷ due (Single (fields_of 1))
    ∷ free (Single (fields_of 2))
    ∷ due (Single (fields_of 3))
    ∷ free (Records (fields_of 4))
    ∷ free (Records (fields_of 5))
    ∷ free (Records (fields_of 6))
    ∷ free (Records (fields_of 7))
    ∷ free (Records (fields_of 8))
    ∷ free (Records (fields_of 9))
    ∷ free (Records (fields_of 10))
    ∷ free (Records (fields_of 11))
    ∷ free (Records (fields_of 12))
    ∷ free (Records (fields_of 13))
    ∷ free (Records (fields_of 14))
    ∷ free (Records (fields_of 15))
    ∷ free (Records (fields_of 16))
    ∷ free (Records (fields_of 17))
    ∷ free (Records (fields_of 18))
    ∷ free (Records (fields_of 19))
    ∷ []

unfoldable pub schedule : Gate
schedule = gate_of expected_files rules value_places value_texts

-- ---- The files as the code has them: two numbers each, the form and whether it must be there
unfoldable pub form_number : Form → ℕ
form_number (Records fields) = 0
form_number (Single fields) = 1
form_number (Fixed text) = 2

unfoldable pub form_row : Expected → List ℕ
form_row e = form_number e.form ∷ cond e.required 1 0 ∷ []

unfoldable pub file_forms : List ℕ
file_forms = flatten (map form_row expected_files)
