-- `quarter_text::longest_in` meets its contract: after each turn it has the longest of those so far.
-- Assumes nothing.
use Rattle.quarter_text.proofs.Figures.{longest-starts, longest-next, longest-ends}
use mathlib.Core.Path.{◌∙◌}
use native.Mathlib.Omega.{arith}
use mir.Facts.{to_z-of_z}
use mir.Syntax.{w64}
use Rattle.exact_sums.specs.Sums.{whole_at}
use Rattle.quarter_text.proofs.Figures.{max-larger}
use Rattle.quarter_text.proofs.longest_in.Goals as goal

pub loop-x-init : goal.loop-x-init
loop-x-init c = longest-starts _

pub loop-x-preserved : goal.loop-x-preserved
unfolding whole_at
loop-x-preserved c = longest-next _ _ (to_z-of_z {w = w64} (record { sfits = c.x-1.given })) c.loop-x.invariant c.figure_length.ensures (c.max-found.ensures ∙ max-larger _ _)

pub returns : goal.returns
returns c = longest-ends _ _ (omega arith) c.loop-x.invariant
