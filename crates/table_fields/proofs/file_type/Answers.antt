-- `table_fields::file_type` meets its contract: the code's bytes are the document's text, computed.
use mathlib.Core.Path.{refl}
use Rattle.table_fields.proofs.Opens.{open-fields}
use Rattle.table_fields.proofs.file_type.Goals as goal

pub returns : goal.returns
unfolding open-fields
returns c = refl
