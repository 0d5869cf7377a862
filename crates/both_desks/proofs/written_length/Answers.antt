-- `both_desks::written_length` meets its contract: nothing, or what trying the change answers.
-- Assumes nothing.
use mathlib.Core.Path.{ap}
use mathlib.Core.Bool.{not}
use Rattle.parts.specs.Files.{new_file}
use Rattle.both_desks.proofs.Laws.{not_written, length-tried}
use Rattle.both_desks.proofs.written_length.Goals as goal

pub returns-then-not-written : goal.returns-then-not-written
returns-then-not-written c = not_written c.args.written _ (ap not c.if-not-written.true)

pub returns : goal.returns
returns c = length-tried 20 c.args.s.now c.args.k (new_file c.args.present c.args.new.now) c.args.written (ap not c.if-not-written.false) c.requires c.try_bundle.ensures
