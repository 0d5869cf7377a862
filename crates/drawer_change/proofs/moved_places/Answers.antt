-- `drawer_change::moved_places` meets its contract.
use mathlib.Core.Path.{refl, ◌∙◌}
use native.Mathlib.Omega.{arith}
use lib.ListN.{length-set}
use Rattle.bundle_layout.specs.Bundle.{header_size}
use Rattle.drawer_held.proofs.Laws.{fill_start, fill-turn}
use Rattle.drawer_change.proofs.Lists.{moved-small}
use Rattle.drawer_change.proofs.moved_places.Goals as goal

pub loop-i-init : goal.loop-i-init
loop-i-init c = (refl, fill_start _ _)

pub overflow_cast-place : goal.overflow_cast-place
unfolding header_size
overflow_cast-place c = omega (arith, c.moved_to.ensures, moved-small 20 c.args.offs.now c.args.lens.now c.loop-i.i (omega arith), c.requires.0)

pub loop-i-preserved : goal.loop-i-preserved
loop-i-preserved c = (length-set c.loop-i.out _ _ ∙ c.loop-i.invariant.0, fill-turn _ _ _ (omega arith) c.loop-i.invariant.1 c.moved_to.ensures)
