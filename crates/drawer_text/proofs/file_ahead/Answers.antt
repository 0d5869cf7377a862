-- `drawer_text::file_ahead` meets its contract.
-- Assumes nothing.
use mathlib.Core.Path.{refl}
use native.Mathlib.Omega.{arith}
use Rattle.drawer_text.specs.Ahead.{file_ahead}
use Rattle.drawer_text.proofs.Gaps.{ahead-turn, ahead-end}
use Rattle.drawer_text.proofs.file_ahead.Goals as goal

pub loop-i-init : goal.loop-i-init
unfolding file_ahead
loop-i-init c = refl

pub nearer-best-requires : goal.nearer-best-requires
nearer-best-requires c = omega (arith, c.number_in-o.ensures.1, c.number_in-l.ensures.1)

pub loop-i-preserved : goal.loop-i-preserved
loop-i-preserved c = ahead-turn _ _ _ _ _ c.loop-i.invariant c.number_in-o.ensures.0 c.number_in-l.ensures.0 c.nearer-best.ensures

pub returns : goal.returns
returns c = ahead-end _ _ _ _ _ c.loop-i.invariant (omega arith)
