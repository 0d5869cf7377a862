-- `listed_numbers::judge_numbers` meets its contract: what the call with a number of places says, and the entries handed over.
use Rattle.mark_numbers.specs.Marks.{marks_in}
use Rattle.listed_numbers.proofs.Handed.{judge-enough, judge-handed}
use Rattle.listed_numbers.proofs.judge_numbers.Goals as goal

pub hand_over-requires : goal.hand_over-requires
hand_over-requires c = judge-enough c.args.bundle.now (marks_in c.args.kinds.now c.args.places.now c.args.companions.now) c.args.work.now c.args.list.now c.judge_flat-told.ensures.value c.judge_flat-told.ensures.work_after

pub returns : goal.returns
returns c = record { value = c.judge_flat-told.ensures.value; board_after = c.judge_flat-told.ensures.board_after; list_after = judge-handed c.args.bundle.now (marks_in c.args.kinds.now c.args.places.now c.args.companions.now) c.args.work.now c.args.list.now c.judge_flat-told.ensures.value c.judge_flat-told.ensures.work_after c.hand_over.ensures; work_after = c.judge_flat-told.ensures.work_after }
