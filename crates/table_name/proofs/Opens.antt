-- One name opens every definition of this crate and of those below it, for tests that compute: a definition that is
-- added here asks nothing of those above.
use mathlib.Core.Bool.{Bool, true}
use Rattle.json_text.proofs.Opens.{open-text}
use Rattle.json_same.proofs.Opens.{open-same}
use Rattle.table_rows.proofs.Opens.{open-table-rows}
use Rattle.table_name.specs.Name.{index_of, named_at, name_at, colon_at, first_in, next_after}

unfoldable pub open-names : Bool
unfolding open-text open-same open-table-rows index_of named_at name_at colon_at first_in next_after
open-names = true
