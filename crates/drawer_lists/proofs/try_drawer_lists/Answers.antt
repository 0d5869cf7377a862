-- `drawer_lists::try_drawer_lists` meets its contract: refused for what is lent or as a change, or judged again.
-- Assumes nothing.
use mathlib.Core.Path.{sym, ◌∙◌}
use Rattle.parts.specs.Files.{new_file}
use Rattle.mark_numbers.specs.Marks.{marks_in}
use Rattle.schedule.specs.Schedule.{schedule}
use Rattle.schedule.proofs.Laws.{files-are}
use Rattle.gate_lists.specs.Which.{gate_called}
use Rattle.drawer_lists.proofs.Laws.{not-lent, change-refused, change-file, change-judged}
use Rattle.drawer_lists.proofs.try_drawer_lists.Goals as goal

pub returns-then-fault-ne0 : goal.returns-then-fault-ne0
unfolding gate_called
returns-then-fault-ne0 c = let whole = not-lent schedule files-are c.args.d.now c.args.k (new_file c.args.present c.args.new.now) (marks_in c.args.kinds.now c.args.places.now c.args.companions.now) c.args.work.now c.lent_fault-fault.ensures c.if-fault-ne0.true in record { value = whole.0; board_after = whole.1.0; work_after = whole.1.1 }

pub returns-then-refusal-ne0 : goal.returns-then-refusal-ne0
unfolding gate_called
returns-then-refusal-ne0 c = let whole = change-refused schedule files-are c.args.d.now c.args.k (new_file c.args.present c.args.new.now) (marks_in c.args.kinds.now c.args.places.now c.args.companions.now) c.args.work.now c.lent_fault-fault.ensures c.if-fault-ne0.false c.change_fault-refusal.ensures c.if-refusal-ne0.true in record { value = whole.0; board_after = whole.1.0; work_after = whole.1.1 }

pub judge_again-requires : goal.judge_again-requires
unfolding gate_called
judge_again-requires c = record { no_lent_fault = sym c.lent_fault-fault.ensures ∙ c.if-fault-ne0.false; k_bound = change-file schedule files-are c.args.d.now c.args.k (new_file c.args.present c.args.new.now) (marks_in c.args.kinds.now c.args.places.now c.args.companions.now) c.args.work.now c.lent_fault-fault.ensures c.if-fault-ne0.false c.change_fault-refusal.ensures c.if-refusal-ne0.false }

pub returns : goal.returns
unfolding gate_called
returns c = let whole = change-judged schedule files-are c.args.d.now c.args.k (new_file c.args.present c.args.new.now) (marks_in c.args.kinds.now c.args.places.now c.args.companions.now) c.args.work.now c.lent_fault-fault.ensures c.if-fault-ne0.false c.change_fault-refusal.ensures c.if-refusal-ne0.false c.judge_again.ensures.board_after c.judge_again.ensures.work_after in record { value = whole.0; board_after = whole.1.0; work_after = whole.1.1 }
