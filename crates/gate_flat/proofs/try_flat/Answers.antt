-- `gate_flat::try_flat` meets its contract. It ends in one of three ways: something lent is wrong, a refusal, or the touched marks judged.
use mathlib.Core.Path.{sym, refl, ◌∙◌}
use Rattle.mark_numbers.specs.Marks.{marks_in}
use Rattle.schedule.specs.Schedule.{schedule}
use Rattle.parts.specs.Files.{new_file}
use Rattle.gate_flat.proofs.Answers.{has-space, try-lent, try-refused, try-fine}
use Rattle.gate_flat.proofs.try_flat.Goals as goal

pub returns-then-fault-ne0 : goal.returns-then-fault-ne0
returns-then-fault-ne0 c = let whole = try-lent c.args.bundle.now c.args.k (new_file c.args.present c.args.new.now) (marks_in c.args.kinds.now c.args.places.now c.args.companions.now) c.args.room c.args.work.now c.list_fault-fault.ensures c.if-fault-ne0.true c.refused.ensures in record { value = whole.0; board_after = whole.1.0; work_after = whole.1.1 }

pub list_unless-counted-requires : goal.list_unless-counted-requires
list_unless-counted-requires c = has-space schedule _ _ (sym c.list_fault-fault.ensures ∙ c.if-fault-ne0.false)

pub returns-then-counted-ne0 : goal.returns-then-counted-ne0
returns-then-counted-ne0 c = let whole = try-refused c.args.bundle.now c.args.k (new_file c.args.present c.args.new.now) (marks_in c.args.kinds.now c.args.places.now c.args.companions.now) c.args.room c.args.work.now c.list_fault-fault.ensures c.if-fault-ne0.false c.try_bundle-tried.ensures c.list_unless-counted.ensures.value c.list_unless-counted.ensures.work_after c.if-counted-ne0.true c.refused-then-counted-ne0.ensures in record { value = whole.0; board_after = whole.1.0; work_after = whole.1.1 }

pub returns : goal.returns
returns c = let whole = try-fine c.args.bundle.now c.args.k (new_file c.args.present c.args.new.now) (marks_in c.args.kinds.now c.args.places.now c.args.companions.now) c.args.room c.args.work.now c.list_fault-fault.ensures c.if-fault-ne0.false c.try_bundle-tried.ensures c.list_unless-counted.ensures.value c.list_unless-counted.ensures.work_after c.if-counted-ne0.false c.list_unless-counted.auto.work c.try_lists-made.ensures.value refl c.try_lists-made.ensures.board_after c.try_lists-made.ensures.work_after in record { value = whole.0; board_after = whole.1.0; work_after = whole.1.1 }
