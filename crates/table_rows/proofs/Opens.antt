-- One name opens every definition of this crate and of those below it, for tests that compute: a definition that is
-- added here asks nothing of those above.
use mathlib.Core.Bool.{Bool, true}
use Rattle.json_bytes.proofs.Opens.{open-bytes}
use Rattle.parts.proofs.Opens.{open-parts}
use Rattle.json_same.proofs.Opens.{open-same}
use Rattle.json_bytes.specs.Ascii.{codes}
use Rattle.table_rows.specs.Rows.{listed, count_before, cell_at, field_name_at, field_at, fields_from, tables_in, first_field, field_count, fields_in, value_text_at, values_from}
use Rattle.table_rows.specs.Run.{counts}

unfoldable pub open-table-rows : Bool
unfolding open-bytes open-parts open-same codes listed count_before cell_at field_name_at field_at fields_from tables_in first_field field_count fields_in value_text_at values_from counts
open-table-rows = true
