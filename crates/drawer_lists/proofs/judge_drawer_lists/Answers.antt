-- `drawer_lists::judge_drawer_lists` meets its contract. It ends in one of three ways: lists of a wrong length, a refusal, or
-- every mark judged.
-- Assumes nothing.
use Prim.Native.Nat.{ℕ}
use mathlib.Core.Path.{refl, sym}
use native.Mathlib.Omega.{arith}
use lib.ListN.{length-replicate}
use Rattle.mark_numbers.specs.Marks.{marks_in}
use Rattle.standing.specs.Standing.{standing}
use Rattle.schedule.specs.Schedule.{schedule}
use Rattle.schedule.proofs.Laws.{files-are}
use Rattle.gate_lists.specs.Which.{gate_called}
use Rattle.gate_lists.proofs.Answers.{bundle-stands}
use Rattle.drawer_lists.proofs.Laws.{judge-wrong, judge-fresh, judge-full}
use Rattle.drawer_lists.proofs.judge_drawer_lists.Goals as goal

pub returns-then-fault-eq100 : goal.returns-then-fault-eq100
unfolding gate_called
returns-then-fault-eq100 c = let whole = judge-wrong schedule files-are c.args.d.now (marks_in c.args.kinds.now c.args.places.now c.args.companions.now) c.args.work.now c.lent_fault-fault.ensures c.if-fault-eq100.true in record { value = whole.0; board_after = whole.1.0; work_after = whole.1.1 }

pub returns-then-refusal-ne0 : goal.returns-then-refusal-ne0
unfolding gate_called
returns-then-refusal-ne0 c = let whole = judge-fresh schedule files-are c.args.d.now (marks_in c.args.kinds.now c.args.places.now c.args.companions.now) c.args.work.now c.lent_fault-fault.ensures c.if-fault-eq100.false c.refusal_of-refusal.ensures c.if-refusal-ne0.true c.make_fresh.ensures in record { value = whole.0; board_after = whole.1.0; work_after = whole.1.1 }

pub slice_bounds-stand_drawer-end : goal.slice_bounds-stand_drawer-end
slice_bounds-stand_drawer-end c = sym (length-replicate {A = ℕ} 96 0)

pub stand_drawer-requires : goal.stand_drawer-requires
stand_drawer-requires c = omega (arith, length-replicate {A = ℕ} 96 0)

pub returns : goal.returns
unfolding gate_called
returns c = let whole = judge-full schedule files-are c.args.d.now (marks_in c.args.kinds.now c.args.places.now c.args.companions.now) c.args.work.now c.lent_fault-fault.ensures c.if-fault-eq100.false c.refusal_of-refusal.ensures c.if-refusal-ne0.false
    (standing c.args.d.now _ _ _) (bundle-stands c.args.d.now _ _ _ _ 20 refl (omega (arith, length-replicate {A = ℕ} 96 0)) c.stand_drawer.ensures)
    c.schedule_marks.ensures.board_after c.schedule_marks.ensures.work_after in record { value = whole.0; board_after = whole.1.0; work_after = whole.1.1 }
