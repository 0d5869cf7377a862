-- `listed_numbers::try_numbers` meets its contract: what the call with a number of places says, and the entries handed over.
use Rattle.parts.specs.Files.{new_file}
use Rattle.mark_numbers.specs.Marks.{marks_in}
use Rattle.listed_numbers.proofs.Handed.{try-enough, try-handed}
use Rattle.listed_numbers.proofs.try_numbers.Goals as goal

pub hand_over-requires : goal.hand_over-requires
hand_over-requires c = try-enough c.args.bundle.now c.args.k (new_file c.args.present c.args.new.now) (marks_in c.args.kinds.now c.args.places.now c.args.companions.now) c.args.work.now c.args.list.now c.try_flat-told.ensures.value c.try_flat-told.ensures.work_after

pub returns : goal.returns
returns c = record { value = c.try_flat-told.ensures.value; board_after = c.try_flat-told.ensures.board_after; list_after = try-handed c.args.bundle.now c.args.k (new_file c.args.present c.args.new.now) (marks_in c.args.kinds.now c.args.places.now c.args.companions.now) c.args.work.now c.args.list.now c.try_flat-told.ensures.value c.try_flat-told.ensures.work_after c.hand_over.ensures; work_after = c.try_flat-told.ensures.work_after }
