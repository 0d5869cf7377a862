-- `drawer_held::read_numbers` meets its contract.
use mathlib.Core.Path.{refl, ◌∙◌}
use native.Mathlib.Omega.{arith}
use lib.ListN.{length-set}
use Rattle.drawer_held.proofs.Laws.{fill_start, fill-turn, number_read}
use Rattle.drawer_held.proofs.read_numbers.Goals as goal

pub loop-i-init : goal.loop-i-init
loop-i-init c = (refl, fill_start _ _)

pub loop-i-preserved : goal.loop-i-preserved
loop-i-preserved c = (length-set c.loop-i.out _ _ ∙ c.loop-i.invariant.0, fill-turn _ _ _ (omega arith) c.loop-i.invariant.1 (number_read _ _ _ c.first_at-at.ensures c.word_at.ensures))
