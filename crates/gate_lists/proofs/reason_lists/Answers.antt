-- `gate_lists::reason_lists` meets its contract. It ends in one of three ways: a workspace too short, a refusal, or what the files say.
-- Assumes nothing.
use Prim.Native.Nat.{ℕ}
use mathlib.Core.Path.{sym, ap, ◌∙◌}
use native.Mathlib.Omega.{arith}
use lib.ListN.{length-replicate}
use Rattle.standing.specs.Standing.{standing, start_standing}
use Rattle.bundle_layout.specs.Bundle.{bundle_fault}
use Rattle.gate_lists.specs.Which.{gate_called}
use Rattle.gate_lists.proofs.Answers.{bundle-stands}
use Rattle.gate_lists.proofs.Reasons.{few-marks, bundle-starts, asked-short, asked-refused, asked-told}
use Rattle.gate_lists.proofs.reason_lists.Goals as goal

pub returns-then-work-workspace : goal.returns-then-work-workspace
returns-then-work-workspace c = let whole = asked-short (gate_called c.args.which) _ _ c.args.work.now c.workspace.ensures c.if-work-workspace.true in record { value = whole.0; work_after = whole.1 }

pub returns-then-fault-ne0 : goal.returns-then-fault-ne0
returns-then-fault-ne0 c = let whole = asked-refused (gate_called c.args.which) _ _ c.args.work.now c.workspace.ensures c.if-work-workspace.false c.file_count-n.ensures.0 c.file_count-n.ensures.1 c.bundle_fault-fault.ensures c.if-fault-ne0.true in record { value = whole.0; work_after = whole.1 }

pub slice_bounds-stand_bundle-end : goal.slice_bounds-stand_bundle-end
slice_bounds-stand_bundle-end c = sym (length-replicate {A = ℕ} 96 0)

pub stand_bundle-requires : goal.stand_bundle-requires
stand_bundle-requires c = omega (arith, c.file_count-n.ensures.1, length-replicate {A = ℕ} 96 0)

pub returns : goal.returns
returns c = let g = gate_called c.args.which in
    let whole = asked-told g c.args.bundle.now c.args.mark c.args.work.now c.workspace.ensures c.if-work-workspace.false c.file_count-n.ensures.0 c.file_count-n.ensures.1 c.bundle_fault-fault.ensures c.if-fault-ne0.false
    (standing c.args.bundle.now _ _ _) (start_standing c.args.bundle.now _ _ _) (bundle-stands c.args.bundle.now _ _ _ _ g.files c.file_count-n.ensures.0 (omega (arith, c.file_count-n.ensures.1, length-replicate {A = ℕ} 96 0)) c.stand_bundle.ensures)
    (bundle-starts c.args.bundle.now _ _ _ _ g.files c.file_count-n.ensures.0 (omega (arith, c.file_count-n.ensures.1, length-replicate {A = ℕ} 96 0)) c.stand_bundle.ensures (ap (λ x. bundle_fault x c.args.bundle.now) (sym c.file_count-n.ensures.0) ∙ sym c.bundle_fault-fault.ensures ∙ c.if-fault-ne0.false)) (few-marks c.args.which) (c.reason_standing.ensures.value, c.reason_standing.ensures.work_after) in record { value = whole.0; work_after = whole.1 }
