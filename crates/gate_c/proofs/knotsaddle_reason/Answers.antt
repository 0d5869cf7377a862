-- `gate_c::knotsaddle_reason` meets its contract: with a refusal it leaves the list as it is.
use Rattle.gate_c.proofs.Reasons.{told-unknown, told-ill, told-refused, told-well}
use Rattle.gate_c.proofs.knotsaddle_reason.Goals as goal

pub returns-then-gate-gt2 : goal.returns-then-gate-gt2
returns-then-gate-gt2 c = let whole = told-unknown c.args.gate c.args.bundle.now c.args.mark c.args.told.now c.args.work.now c.if-gate-gt2.true in record { value = whole.0; told_after = whole.1.0; work_after = whole.1.1 }

pub returns-then-told-ne9 : goal.returns-then-told-ne9
returns-then-told-ne9 c = let whole = told-ill c.args.gate c.args.bundle.now c.args.mark c.args.told.now c.args.work.now c.if-gate-gt2.false c.if-told-ne9.true in record { value = whole.0; told_after = whole.1.0; work_after = whole.1.1 }

pub returns-then-refused-ne0 : goal.returns-then-refused-ne0
returns-then-refused-ne0 c = let whole = told-refused c.args.gate c.args.bundle.now c.args.mark c.args.told.now c.args.work.now c.if-gate-gt2.false c.if-told-ne9.false c.which_of.ensures (c.reason_lists-reason.ensures.value, c.reason_lists-reason.ensures.work_after) c.refusal_of-refused.ensures c.if-refused-ne0.true in record { value = whole.0; told_after = whole.1.0; work_after = whole.1.1 }

pub returns : goal.returns
returns c = let whole = told-well c.args.gate c.args.bundle.now c.args.mark c.args.told.now c.args.work.now c.if-gate-gt2.false c.if-told-ne9.false c.which_of.ensures (c.reason_lists-reason.ensures.value, c.reason_lists-reason.ensures.work_after) c.refusal_of-refused.ensures c.if-refused-ne0.false c.put_reason.ensures in record { value = whole.0; told_after = whole.1.0; work_after = whole.1.1 }
