-- `gate_names::put_contract_field` meets its contract: document 000's rows give its fields.
use Rattle.gate_names.proofs.Laws.{contract-put}
use Rattle.gate_names.proofs.put_contract_field.Goals as goal

pub returns : goal.returns
returns c = contract-put _ _ _ c.contract_field_rows-rows.ensures c.contract_field_names-names.ensures c.put_name_in_rows.ensures
