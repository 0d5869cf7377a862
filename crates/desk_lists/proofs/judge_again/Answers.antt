-- `desk_lists::judge_again` meets its contract: the files stand as the change leaves them.
-- Assumes nothing.
use Prim.Native.Nat.{ℕ}
use mathlib.Core.Path.{sym}
use native.Mathlib.Omega.{arith}
use lib.ListN.{length-replicate}
use Rattle.mark_numbers.specs.Marks.{marks_in}
use Rattle.schedule.specs.Schedule.{schedule}
use Rattle.schedule.proofs.Laws.{files-are}
use Rattle.desk_lists.proofs.Laws.{again-judged}
use Rattle.desk_lists.proofs.judge_again.Goals as goal

pub slice_bounds-stand_join-end : goal.slice_bounds-stand_join-end
slice_bounds-stand_join-end c = sym (length-replicate {A = ℕ} 96 0)

pub stand_join-requires : goal.stand_join-requires
stand_join-requires c = omega (arith, length-replicate {A = ℕ} 96 0)

pub returns : goal.returns
returns c = let whole = again-judged schedule files-are (marks_in c.args.kinds.now c.args.places.now c.args.companions.now) c.args.work.now c.requires.no_lent_fault c.args.desk.now c.args.shared.now c.args.new.now _ _ c.args.k c.args.present (omega (arith, c.stand_join.auto, length-replicate {A = ℕ} 96 0)) c.requires.k_bound c.stand_join.ensures c.new_number.ensures c.place.ensures c.schedule_marks.ensures.board_after c.schedule_marks.ensures.work_after in record { board_after = whole.0; work_after = whole.1 }
