-- `gate_lists::judge_lists` meets its contract. It ends in one of three ways: lists of a wrong length, a refusal, or every mark judged.
use Prim.Native.Nat.{ℕ}
use mathlib.Core.Path.{sym}
use native.Mathlib.Omega.{arith}
use lib.ListN.{length-replicate}
use Rattle.mark_numbers.specs.Marks.{marks_in}
use Rattle.standing.specs.Standing.{standing}
use Rattle.gate_lists.specs.Which.{gate_called}
use Rattle.gate_lists.proofs.Answers.{judge-wrong, judge-fresh, judge-full, bundle-stands}
use Rattle.gate_lists.proofs.judge_lists.Goals as goal

pub returns-then-fault-eq100 : goal.returns-then-fault-eq100
returns-then-fault-eq100 c = let whole = judge-wrong (gate_called c.args.which) c.args.bundle.now (marks_in c.args.kinds.now c.args.places.now c.args.companions.now) c.args.work.now c.lent_fault-fault.ensures c.if-fault-eq100.true in record { value = whole.0; board_after = whole.1.0; work_after = whole.1.1 }

pub returns-then-refusal-ne0 : goal.returns-then-refusal-ne0
returns-then-refusal-ne0 c = let whole = judge-fresh (gate_called c.args.which) c.args.bundle.now (marks_in c.args.kinds.now c.args.places.now c.args.companions.now) c.args.work.now c.lent_fault-fault.ensures c.file_count-n.ensures.0 c.refusal_of-refusal.ensures c.if-fault-eq100.false c.if-refusal-ne0.true c.make_fresh.ensures in record { value = whole.0; board_after = whole.1.0; work_after = whole.1.1 }

pub slice_bounds-stand_bundle-end : goal.slice_bounds-stand_bundle-end
slice_bounds-stand_bundle-end c = sym (length-replicate {A = ℕ} 96 0)

pub stand_bundle-requires : goal.stand_bundle-requires
stand_bundle-requires c = omega (arith, c.file_count-n.ensures.1, length-replicate {A = ℕ} 96 0)

pub returns : goal.returns
returns c = let g = gate_called c.args.which in
    let whole = judge-full g c.args.bundle.now (marks_in c.args.kinds.now c.args.places.now c.args.companions.now) c.args.work.now c.lent_fault-fault.ensures c.file_count-n.ensures.0 c.refusal_of-refusal.ensures c.if-refusal-ne0.false
    (standing c.args.bundle.now _ _ _) (bundle-stands c.args.bundle.now _ _ _ _ g.files c.file_count-n.ensures.0 (omega (arith, c.file_count-n.ensures.1, length-replicate {A = ℕ} 96 0)) c.stand_bundle.ensures)
    c.judge_standing.ensures.board_after c.judge_standing.ensures.work_after in record { value = whole.0; board_after = whole.1.0; work_after = whole.1.1 }
