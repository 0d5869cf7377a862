-- `reason::told_judged` meets its contract: what is told from the lists is what the files say.
-- Assumes nothing.
use Rattle.reason.proofs.Told.{ends-refused, ends-told}
use Rattle.reason.proofs.told_judged.Goals as goal

pub returns-then-judge_files : goal.returns-then-judge_files
returns-then-judge_files c = let whole = ends-told _ _ _ _ _ _ _ _ _ _ _ _ c.requires.0 c.requires.1 (c.judge_files.ensures.value, (c.judge_files.ensures.board_after, c.judge_files.ensures.work_after)) c.if-judge_files.true c.told_of.ensures in record { value = whole.0; work_after = whole.1 }

pub returns : goal.returns
returns c = let whole = ends-refused _ _ _ _ _ _ _ _ _ _ _ _ c.requires.0 c.requires.1 (c.judge_files.ensures.value, (c.judge_files.ensures.board_after, c.judge_files.ensures.work_after)) c.if-judge_files.false in record { value = whole.0; work_after = whole.1 }
