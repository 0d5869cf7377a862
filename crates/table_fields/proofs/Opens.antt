-- One name opens every definition of this crate and of those below it, for tests that compute: a definition that is
-- added here asks nothing of those above.
use mathlib.Core.Bool.{Bool, true}
use Rattle.table_rows.proofs.Opens.{open-table-rows}
use Rattle.table_fields.specs.Enumerations.{enumerations, values_of}
use Rattle.table_fields.specs.Fields.{tables, fields_of, file_type}
use Rattle.table_fields.specs.Flat.{names_of, rows_from, rows_of, field_rows, field_names, places_from, value_places, value_texts, first_value}

unfoldable pub open-fields : Bool
unfolding open-table-rows enumerations values_of tables fields_of file_type names_of rows_from rows_of field_rows field_names places_from value_places value_texts first_value
open-fields = true
