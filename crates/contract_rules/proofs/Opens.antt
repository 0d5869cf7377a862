-- One name opens every definition of this crate and of those below it, for tests that compute: a definition that is
-- added here asks nothing of those above.
use mathlib.Core.Bool.{Bool, true}
use mathlib.Core.List.{flatten}
use Rattle.table_name.proofs.Opens.{open-names}
use Rattle.contract_fields.proofs.Opens.{open-contract-fields}
use Rattle.rule_shape.proofs.Opens.{open-shapes}
use Rattle.contract_rules.specs.Rules.{contract_field, primary_key, foreign_key, tree_levels, tree_parents, leaf, contract_rules, contract_rule_rows}

unfoldable pub open-contract-rows : Bool
unfolding flatten open-names open-contract-fields open-shapes contract_field primary_key foreign_key tree_levels tree_parents leaf contract_rules contract_rule_rows
open-contract-rows = true
