-- One name opens every definition of this crate and of those below it, for tests that compute: a definition that is
-- added here asks nothing of those above.
use mathlib.Core.Bool.{Bool, true}
use Rattle.table_fields.proofs.Opens.{open-fields}
use Rattle.contract_fields.specs.Fields.{contract_tables, contract_fields_of, contract_field_rows, contract_field_names}

unfoldable pub open-contract-fields : Bool
unfolding open-fields contract_tables contract_fields_of contract_field_rows contract_field_names
open-contract-fields = true
