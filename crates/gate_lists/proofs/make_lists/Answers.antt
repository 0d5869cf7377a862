-- `gate_lists::make_lists` meets its contract: refused for what is lent, or as what became of the bundle says.
use mathlib.Core.Path.{sym, ◌∙◌}
use lib.ListN.{length}
use Rattle.parts.specs.Files.{new_file}
use Rattle.mark_numbers.specs.Marks.{marks_in}
use Rattle.gate_lists.specs.Which.{gate_called}
use Rattle.gate_lists.proofs.Answers.{made-file, make-not, make-all}
use Rattle.gate_lists.proofs.make_lists.Goals as goal

pub returns-then-fault-ne0 : goal.returns-then-fault-ne0
returns-then-fault-ne0 c = let whole = make-not (gate_called c.args.which) c.args.bundle.now c.args.k (new_file c.args.present c.args.new.now) (marks_in c.args.kinds.now c.args.places.now c.args.companions.now) c.args.work.now c.lent_fault-fault.ensures c.args.out.now c.if-fault-ne0.true in record { value = whole.0; board_after = whole.1.0; out_after = whole.1.1.0; work_after = whole.1.1.1 }

pub judge_change-requires : goal.judge_change-requires
judge_change-requires c = let g = gate_called c.args.which in
    record { no_lent_fault = sym c.lent_fault-fault.ensures ∙ c.if-fault-ne0.false; k_bound = made-file g c.args.bundle.now c.args.k (new_file c.args.present c.args.new.now) (marks_in c.args.kinds.now c.args.places.now c.args.companions.now) (length c.args.out.now) _ (rw c.file_count.ensures.0 at c.make_bundle-made.ensures.value) }

pub returns : goal.returns
returns c = let whole = make-all (gate_called c.args.which) c.args.bundle.now c.args.k (new_file c.args.present c.args.new.now) (marks_in c.args.kinds.now c.args.places.now c.args.companions.now) c.args.work.now c.lent_fault-fault.ensures c.if-fault-ne0.false c.file_count.ensures.0 _ c.judge_change.ensures.value c.judge_change.ensures.board_after c.judge_change.ensures.work_after c.args.out.now c.make_bundle-made.ensures.value c.make_bundle-made.ensures.out_after in record { value = whole.0; board_after = whole.1.0; out_after = whole.1.1.0; work_after = whole.1.1.1 }
