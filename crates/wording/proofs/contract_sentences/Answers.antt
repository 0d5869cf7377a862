-- `wording::contract_sentences` meets its contract: the code's bytes are the sentences, computed.
use mathlib.Core.Path.{refl}
use mathlib.Core.List.{flatten}
use Rattle.json_bytes.specs.Ascii.{codes}
use Rattle.wording.specs.Sentences.{contract_sentences}
use Rattle.wording.specs.Flat.{all_contract}
use Rattle.wording.proofs.contract_sentences.Goals as goal

pub returns : goal.returns
unfolding all_contract flatten contract_sentences codes
returns c = refl
