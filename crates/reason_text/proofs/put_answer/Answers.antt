-- `reason_text::put_answer` meets its contract: the text of a judgement.
use Rattle.json_bytes.specs.Ascii.{codes}
use Rattle.mark_numbers.specs.Marks.{marks_in}
use Rattle.reason_text.proofs.Whole.{refused-put, judged-put}
use Rattle.reason_text.proofs.put_answer.Goals as goal

pub returns-then-made-ne0 : goal.returns-then-made-ne0
unfolding codes
returns-then-made-ne0 c = refused-put c.args.which c.args.grouped c.args.bundle.now c.requires.enough_workspace (marks_in c.args.kinds.now c.args.places.now c.args.companions.now) (record { kinds-long = c.requires.lists_len.0; places-long = c.requires.lists_len.1; companions-long = c.requires.lists_len.2 }) c.judge_lists-made.ensures.value _ c.if-made-ne0.true c.put_counted.ensures

pub returns : goal.returns
returns c = judged-put c.args.which c.args.grouped c.args.bundle.now c.requires.enough_workspace (marks_in c.args.kinds.now c.args.places.now c.args.companions.now) (record { kinds-long = c.requires.lists_len.0; places-long = c.requires.lists_len.1; companions-long = c.requires.lists_len.2 }) c.judge_lists-made.ensures.value _ c.if-made-ne0.false c.judge_lists-made.ensures.board_after c.put_marks.ensures
