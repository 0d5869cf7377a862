-- `reason::shown_in` meets its contract: each number by the function that finds it.
-- Assumes nothing.
use Rattle.reason.proofs.Found.{shown-is}
use Rattle.reason.proofs.shown_in.Goals as goal

pub returns : goal.returns
returns c = shown-is _ _ _ _ _ _ c.less-r.ensures c.deciding_field-field.ensures c.value_start-start.ensures c.value_length-length.ensures c.first_file.ensures
