-- `table_fields::value_texts` meets its contract: the code's numbers are those of the document's tables laid out flat, computed.
use mathlib.Core.Path.{refl}
use mathlib.Core.List.{flatten}
use Rattle.table_fields.proofs.Opens.{open-fields}
use Rattle.table_fields.proofs.value_texts.Goals as goal

pub returns : goal.returns
unfolding open-fields flatten
returns c = refl
