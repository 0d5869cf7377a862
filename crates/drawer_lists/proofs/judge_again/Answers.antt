-- `drawer_lists::judge_again` meets its contract: the files stand as the change leaves them.
-- Assumes nothing.
use Prim.Native.Nat.{ℕ}
use mathlib.Core.Path.{refl, sym}
use native.Mathlib.Omega.{arith}
use lib.ListN.{length-replicate}
use Rattle.parts.specs.Files.{new_file}
use Rattle.mark_numbers.specs.Marks.{marks_in}
use Rattle.standing.specs.Standing.{standing}
use Rattle.schedule.specs.Schedule.{schedule}
use Rattle.schedule.proofs.Laws.{files-are}
use Rattle.gate_lists.proofs.Answers.{change-stands}
use Rattle.drawer_lists.proofs.Laws.{new-number, again-judged}
use Rattle.drawer_lists.proofs.judge_again.Goals as goal

pub slice_bounds-stand_drawer-end : goal.slice_bounds-stand_drawer-end
slice_bounds-stand_drawer-end c = sym (length-replicate {A = ℕ} 96 0)

pub stand_drawer-requires : goal.stand_drawer-requires
stand_drawer-requires c = omega (arith, length-replicate {A = ℕ} 96 0)

pub returns : goal.returns
returns c = let whole = again-judged schedule files-are c.args.d.now c.args.k (new_file c.args.present c.args.new.now) (marks_in c.args.kinds.now c.args.places.now c.args.companions.now) c.args.work.now c.requires.no_lent_fault (standing c.args.d.now c.args.new.now c.args.new.now _)
    (change-stands c.args.d.now c.args.new.now c.args.new.now _ _ _ 20 c.args.k c.args.present refl (omega (arith, length-replicate {A = ℕ} 96 0)) c.requires.k_bound c.stand_drawer.ensures (new-number c.args.present c.slice_number.ensures) c.place.ensures)
    c.schedule_marks.ensures.board_after c.schedule_marks.ensures.work_after in record { board_after = whole.0; work_after = whole.1 }
