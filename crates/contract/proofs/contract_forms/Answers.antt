-- `contract::contract_forms` meets its contract: the code's numbers are the rows of the document's files, computed.
use mathlib.Core.Path.{refl}
use mathlib.Core.List.{flatten}
use Rattle.schedule.specs.Schedule.{free, form_number, form_row}
use Rattle.contract.specs.Contract.{contract_files, contract_forms}
use Rattle.contract.proofs.contract_forms.Goals as goal

pub returns : goal.returns
unfolding contract_forms form_row form_number contract_files free flatten
returns c = refl
