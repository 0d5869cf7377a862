-- `contract_rules::contract_rule_rows` meets its contract: the code's numbers are the rows of the document's rules, computed.
use mathlib.Core.Path.{refl}
use Rattle.contract_rules.proofs.Opens.{open-contract-rows}
use Rattle.contract_rules.proofs.contract_rule_rows.Goals as goal

pub returns : goal.returns
unfolding open-contract-rows
returns c = refl
