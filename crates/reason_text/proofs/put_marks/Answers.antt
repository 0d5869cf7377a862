-- `reason_text::put_marks` meets its contract: one text behind the other.
use Rattle.json_bytes.specs.Ascii.{codes}
use Rattle.reason_text.proofs.Whole.{marks-put}
use Rattle.reason_text.proofs.put_marks.Goals as goal

pub returns : goal.returns
unfolding codes
returns c = marks-put _ _ _ _ _ c.put_counted-lines.ensures c.put_lines-groups.ensures c.put_groups-last.ensures c.put_last.ensures
