-- `gate_flat::judge_flat` meets its contract. It ends in one of four ways: lists of a wrong length, a short workspace, a refusal, or every
-- mark judged.
use mathlib.Core.Path.{sym, refl, ◌∙◌}
use Rattle.mark_numbers.specs.Marks.{marks_in}
use Rattle.schedule.specs.Schedule.{schedule}
use Rattle.gate_flat.proofs.Answers.{has-space, judge-wrong, judge-short, judge-refused, judge-fine}
use Rattle.gate_flat.proofs.judge_flat.Goals as goal

pub returns-then-fault-eq100 : goal.returns-then-fault-eq100
returns-then-fault-eq100 c = let whole = judge-wrong c.args.bundle.now (marks_in c.args.kinds.now c.args.places.now c.args.companions.now) c.args.room c.args.work.now c.list_fault-fault.ensures c.if-fault-eq100.true c.refused.ensures in record { value = whole.0; board_after = whole.1.0; work_after = whole.1.1 }

pub returns-then-fault-ne0 : goal.returns-then-fault-ne0
returns-then-fault-ne0 c = let whole = judge-short c.args.bundle.now (marks_in c.args.kinds.now c.args.places.now c.args.companions.now) c.args.room c.args.work.now c.list_fault-fault.ensures c.if-fault-eq100.false c.if-fault-ne0.true c.refused-then-fault-ne0.ensures c.make_fresh.ensures in record { value = whole.0; board_after = whole.1.0; work_after = whole.1.1 }

pub list_unless-counted-requires : goal.list_unless-counted-requires
list_unless-counted-requires c = has-space schedule _ _ (sym c.list_fault-fault.ensures ∙ c.if-fault-ne0.false)

pub returns-then-counted-ne0 : goal.returns-then-counted-ne0
returns-then-counted-ne0 c = let whole = judge-refused c.args.bundle.now (marks_in c.args.kinds.now c.args.places.now c.args.companions.now) c.args.room c.args.work.now c.list_fault-fault.ensures c.if-fault-eq100.false c.if-fault-ne0.false _ c.bundle_fault-refusal.ensures c.list_unless-counted.ensures.value c.list_unless-counted.ensures.work_after c.if-counted-ne0.true c.refused-then-counted-ne0.ensures c.make_fresh-then-counted-ne0.ensures in record { value = whole.0; board_after = whole.1.0; work_after = whole.1.1 }

pub returns : goal.returns
returns c = let whole = judge-fine c.args.bundle.now (marks_in c.args.kinds.now c.args.places.now c.args.companions.now) c.args.room c.args.work.now c.list_fault-fault.ensures c.if-fault-eq100.false c.if-fault-ne0.false _ c.bundle_fault-refusal.ensures c.list_unless-counted.ensures.value c.list_unless-counted.ensures.work_after c.if-counted-ne0.false c.list_unless-counted.auto.work c.judge_lists-made.ensures.value refl c.judge_lists-made.ensures.board_after c.judge_lists-made.ensures.work_after in record { value = whole.0; board_after = whole.1.0; work_after = whole.1.1 }
