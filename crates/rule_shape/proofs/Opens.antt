-- One name opens every definition of this crate and of those below it, for tests that compute: a definition that is
-- added here asks nothing of those above.
use mathlib.Core.Bool.{Bool, true}
use Rattle.table_rows.proofs.Opens.{open-table-rows}
use Rattle.rule_shape.specs.Rule.{first_file_of, second_file_of, reads, row_of, shapes_of, rule_of, rule_from, rules_from, rules_in}

unfoldable pub open-shapes : Bool
unfolding open-table-rows first_file_of second_file_of reads row_of shapes_of rule_of rule_from rules_from rules_in
open-shapes = true
