-- `gate_lists::try_lists` meets its contract: refused for what is lent, or as what became of the bundle says.
use mathlib.Core.Path.{sym, ◌∙◌}
use Rattle.parts.specs.Files.{new_file}
use Rattle.mark_numbers.specs.Marks.{marks_in}
use Rattle.gate_lists.specs.Which.{gate_called}
use Rattle.gate_lists.proofs.Answers.{tried-file, try-not, try-all}
use Rattle.gate_lists.proofs.try_lists.Goals as goal

pub returns-then-fault-ne0 : goal.returns-then-fault-ne0
returns-then-fault-ne0 c = let whole = try-not (gate_called c.args.which) c.args.bundle.now c.args.k (new_file c.args.present c.args.new.now) (marks_in c.args.kinds.now c.args.places.now c.args.companions.now) c.args.work.now c.lent_fault-fault.ensures c.if-fault-ne0.true in record { value = whole.0; board_after = whole.1.0; work_after = whole.1.1 }

pub judge_change-requires : goal.judge_change-requires
judge_change-requires c = let g = gate_called c.args.which in
    record { no_lent_fault = sym c.lent_fault-fault.ensures ∙ c.if-fault-ne0.false; k_bound = tried-file g c.args.bundle.now c.args.k (new_file c.args.present c.args.new.now) (marks_in c.args.kinds.now c.args.places.now c.args.companions.now) _ (rw c.file_count.ensures.0 at c.try_bundle-made.ensures) }

pub returns : goal.returns
returns c = let whole = try-all (gate_called c.args.which) c.args.bundle.now c.args.k (new_file c.args.present c.args.new.now) (marks_in c.args.kinds.now c.args.places.now c.args.companions.now) c.args.work.now c.lent_fault-fault.ensures c.if-fault-ne0.false c.file_count.ensures.0 _ c.judge_change.ensures.value c.judge_change.ensures.board_after c.judge_change.ensures.work_after c.try_bundle-made.ensures in record { value = whole.0; board_after = whole.1.0; work_after = whole.1.1 }
