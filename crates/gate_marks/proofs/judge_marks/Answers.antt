-- `gate_marks::judge_marks` meets its contract: what is found of each judged mark, from what was read, is the mark of the
-- files.
-- Assumes nothing.
use borrow.Author.Rules.{rules}
use Rattle.mark_numbers.proofs.Laws.{long-lists}
use Rattle.gate_marks.proofs.Marks.{marks-judged}
use Rattle.gate_marks.proofs.judge_marks.Goals as goal

pub read_needed-requires : goal.read_needed-requires
read_needed-requires c = record { enough_room = (c.requires.enough_room.0, c.requires.enough_room.1, c.requires.enough_room.2, long-lists 32 _ (record { kinds-long = search rules; places-long = search rules; companions-long = search rules }), search rules); starts = c.requires.starts }

pub put_marks-requires : goal.put_marks-requires
put_marks-requires c = c.requires.enough_room.3

pub returns : goal.returns
returns c = let whole = marks-judged _ _ _ _ _ _ _ _ _ _ _ _ _ _ _ _ c.requires.starts (c.read_needed.ensures.read_to, c.read_needed.ensures.work_after) _ _ c.put_marks.ensures in record { board_after = whole.0; work_after = whole.1 }
