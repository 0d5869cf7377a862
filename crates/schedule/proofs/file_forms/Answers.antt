-- `schedule::file_forms` meets its contract: the code's numbers are the rows of the document's files, computed.
use mathlib.Core.Path.{refl}
use mathlib.Core.List.{flatten}
use Rattle.schedule.specs.Schedule.{due, free, expected_files, form_number, form_row, file_forms}
use Rattle.schedule.proofs.file_forms.Goals as goal

pub returns : goal.returns
unfolding file_forms form_row form_number expected_files due free flatten
returns c = refl
