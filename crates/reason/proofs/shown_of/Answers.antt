-- `reason::shown_of` meets its contract: the table is that of the rule's file.
-- Assumes nothing.
use native.Mathlib.Omega.{arith}
use Rattle.standing.specs.Standing.{standing, start_standing}
use Rattle.reason.proofs.Found.{shown-found}
use Rattle.reason.proofs.shown_of.Goals as goal

pub shown_in-requires : goal.shown_in-requires
shown_in-requires c = omega (arith, c.start_standing-offset.ensures.1)

pub returns : goal.returns
returns c = shown-found _ _ _ (standing c.args.a.now c.args.b.now c.args.c.now c.args.stand.now) (start_standing c.args.a.now c.args.b.now c.args.c.now c.args.stand.now) _ _ c.first_file-file.ensures c.start_standing-offset.ensures.0 c.part_standing-s.ensures c.cells_in-cells.ensures c.width_of-width.ensures c.shown_in.ensures
