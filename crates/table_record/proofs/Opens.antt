-- One name opens every definition of this crate and of those below it, for tests that compute: a definition that is
-- added here asks nothing of those above.
use mathlib.Core.Bool.{Bool, true}
use Rattle.table_value.proofs.Opens.{open-values}
use Rattle.table_fields.proofs.Opens.{open-fields}
use Rattle.table_name.proofs.Opens.{open-names}
use Rattle.table_record.specs.Record.{start_cell, end_cell, stored, cleared, type_of, stored_value, after_colon, is_read, after_name, pair_at, lacks, is_missing, record_closed_at, pairs_from, members_of, record_has_room, record_at}

unfoldable pub open-records : Bool
unfolding open-fields open-values open-names start_cell end_cell stored cleared type_of stored_value after_colon is_read after_name pair_at lacks is_missing record_closed_at pairs_from members_of record_has_room record_at
open-records = true
