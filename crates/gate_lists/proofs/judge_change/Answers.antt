-- `gate_lists::judge_change` meets its contract: refused it leaves all as it is; else the files stand as the change leaves them.
use Prim.Native.Nat.{ℕ}
use mathlib.Core.Path.{sym}
use native.Mathlib.Omega.{arith}
use lib.ListN.{length-replicate}
use Rattle.parts.specs.Files.{new_file}
use Rattle.mark_numbers.specs.Marks.{marks_in}
use Rattle.standing.specs.Standing.{standing}
use Rattle.gate_lists.specs.Which.{gate_called}
use Rattle.gate_lists.proofs.Answers.{change-refused, change-judged, change-stands}
use Rattle.gate_lists.proofs.judge_change.Goals as goal

pub returns-then-made-ne0 : goal.returns-then-made-ne0
returns-then-made-ne0 c = let whole = change-refused (gate_called c.args.which) c.args.bundle.now c.args.k (new_file c.args.present c.args.new.now) c.args.made (marks_in c.args.kinds.now c.args.places.now c.args.companions.now) c.args.work.now c.if-made-ne0.true in record { value = whole.0; board_after = whole.1.0; work_after = whole.1.1 }

pub slice_bounds-stand_bundle-end : goal.slice_bounds-stand_bundle-end
slice_bounds-stand_bundle-end c = sym (length-replicate {A = ℕ} 96 0)

pub stand_bundle-requires : goal.stand_bundle-requires
stand_bundle-requires c = omega (arith, c.file_count-n.ensures.1, length-replicate {A = ℕ} 96 0)

pub returns : goal.returns
returns c = let g = gate_called c.args.which in
    let z = c.if-made-ne0.false in
    let whole = change-judged g c.args.bundle.now c.args.k (new_file c.args.present c.args.new.now) c.args.made (marks_in c.args.kinds.now c.args.places.now c.args.companions.now) c.args.work.now z c.requires.no_lent_fault
    (standing c.args.bundle.now c.args.new.now c.args.new.now _) (change-stands c.args.bundle.now c.args.new.now c.args.new.now _ _ _ g.files c.args.k c.args.present c.file_count-n.ensures.0 (omega (arith, c.file_count-n.ensures.1, length-replicate {A = ℕ} 96 0)) (c.requires.k_bound z) c.stand_bundle.ensures c.new_number.ensures c.place.ensures)
    c.judge_standing.ensures.board_after c.judge_standing.ensures.work_after in record { value = whole.0; board_after = whole.1.0; work_after = whole.1.1 }
