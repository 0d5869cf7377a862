-- `reason_text::put_groups` meets its contract: none where marks are not grouped.
use Rattle.mark_numbers.specs.Marks.{marks_in}
use Rattle.reason_text.proofs.Keepers.{groups_none, groups-put}
use Rattle.reason_text.proofs.put_groups.Goals as goal

pub returns-then-not-grouped : goal.returns-then-not-grouped
returns-then-not-grouped c = groups_none c.args.which c.args.bundle.now (marks_in c.args.kinds.now c.args.places.now c.args.companions.now) _ c.args.grouped c.if-not-grouped.true

pub returns : goal.returns
returns c = groups-put c.args.which c.args.bundle.now (marks_in c.args.kinds.now c.args.places.now c.args.companions.now) _ c.args.grouped c.if-not-grouped.false c.find_keepers.ensures c.requires.keepers_len c.file_count-files.ensures.0 c.put_keepers.ensures
