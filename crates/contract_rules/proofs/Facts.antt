-- What holds of the contract side's rules, computed once over all of them.
-- Assumes nothing.
use mathlib.Core.Path.{◌≡◌, refl}
use mathlib.Core.Bool.{Bool, true, ◌&&◌}
use lib.ListN.{length}
use lib.Dec.{ltb}
use Rattle.table_rows.proofs.Laws.{all}
use Rattle.contract_fields.specs.Fields.{contract_fields_of}
use Rattle.rule_shape.specs.declared.Rule.{Rule}
use Rattle.rule_shape.specs.Rule.{first_file_of, second_file_of, rules_in}
use Rattle.rule_shape.proofs.Laws.{rows_back}
use Rattle.schedule_rules.proofs.Facts.{is_named_in}
use Rattle.contract_rules.specs.Rules.{contract_rules, contract_rule_rows}
use Rattle.contract_rules.proofs.Opens.{open-contract-rows}

-- ---- The rows decode to the rules
pub rows-decode : rules_in contract_rule_rows ≡ contract_rules
unfolding contract_rule_rows
rows-decode = rows_back contract_rules

pub rows-count : length contract_rule_rows ≡ 135
unfolding open-contract-rows
rows-count = refl

pub rules-count : length contract_rules ≡ 15
unfolding open-contract-rows
rules-count = refl

-- ---- Every rule reads files from 0 to 3, and every name is one of document 000's, which has no values here
unfoldable pub is_within : Rule → Bool
is_within rule = ltb (first_file_of rule) 4 && ltb (second_file_of rule) 4

pub rules-within : all is_within contract_rules ≡ true
unfolding open-contract-rows all is_within
rules-within = refl

pub all_named : all (is_named_in (λ file. length (contract_fields_of file)) 0) contract_rules ≡ true
unfolding open-contract-rows all is_named_in
all_named = refl
