-- `drawer_moves::move_part` meets its contract.
use mathlib.Core.Path.{◌∙◌}
use native.Mathlib.Omega.{arith}
use Rattle.drawer_moves.proofs.Moves.{move-turn, move-whole}
use lib.ListN.{length-set}
use Rattle.drawer_moves.proofs.move_part.Goals as goal

-- src/lib.rt:14:1
pub returns : goal.returns
returns c = move-whole _ _ _ _ c.requires.0 c.requires.1 c.loop-i.i (omega arith) c.loop-i.invariant.1

pub loop-i-preserved : goal.loop-i-preserved
loop-i-preserved c = (length-set c.loop-i.d _ _ ∙ c.loop-i.invariant.0, move-turn _ _ _ _ c.requires.0 c.requires.1 _ c.loop-i-test.true c.loop-i.invariant.1)
