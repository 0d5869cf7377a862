-- `gate_marks::read_one` meets its contract: whether the file is there and its bytes say which file it is.
-- Assumes nothing.
use mathlib.Core.Path.{◌∙◌}
use Rattle.mark_numbers.specs.Marks.{marks_in}
use Rattle.standing.proofs.Laws.{there-present}
use Rattle.gate_marks.proofs.Reading.{one-read}
use Rattle.gate_marks.proofs.read_one.Goals as goal

pub returns : goal.returns
returns c = let whole = one-read _ _ _ _ (c.is_there-there.ensures ∙ there-present _ _ _ _ _) c.part_standing-s.ensures _ _ _ _ c.requires.0 c.requires.1 _ _ c.read_in-read.ensures.value c.read_in-read.ensures.cells_after c.args.k (marks_in c.args.kinds.now c.args.places.now c.args.companions.now) c.args.records.now c.mark_read.ensures c.put_mark.ensures c.put_number.ensures in record { work_after = whole.0; board_after = whole.1.0; records_after = whole.1.1 }
