-- `loop_text::tell_loop` meets its contract: what is told is what is shown.
-- Assumes nothing.
use Rattle.json_bytes.specs.Ascii.{codes}
use Rattle.loop_text.proofs.Puts.{tells-short, tells}
use Rattle.loop_text.proofs.tell_loop.Goals as goal

pub returns-then-work-lt40960 : goal.returns-then-work-lt40960
unfolding codes
returns-then-work-lt40960 c = tells-short _ _ _ _ _ c.if-work-lt40960.true c.put_counted.ensures

pub returns : goal.returns
returns c = tells _ _ _ _ _ _ _ c.show_loop_in-shown.ensures c.put_shown.ensures
