-- `contract_fields::contract_field_rows` meets its contract: the code's numbers are those of the document's tables laid out flat, computed.
use mathlib.Core.Path.{refl}
use mathlib.Core.List.{flatten}
use Rattle.contract_fields.proofs.Opens.{open-contract-fields}
use Rattle.contract_fields.proofs.contract_field_rows.Goals as goal

pub returns : goal.returns
unfolding open-contract-fields flatten
returns c = refl
