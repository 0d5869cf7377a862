-- `quarter::some_far` meets its contract: what is left of the search at the loop's head answers as the whole does.
-- Assumes nothing.
use mir.Syntax.{w64}
use Prim.Native.Nat.{◌-◌}
use mathlib.Core.Path.{refl, ◌∙◌, ap, sym}
use Rattle.exact_sums.specs.Sums.{whole_at}
use Rattle.rule_cells.specs.Cells.{first_that}
use Rattle.rule_cells.proofs.Laws.{search-goes-on}
use Rattle.quarter.specs.Code.{far_from, some_far}
use Rattle.quarter.proofs.Totals.{some-breaks, none-breaks}
use mir.Facts.{to_z-of_z}
use Rattle.quarter.proofs.some_far.Goals as goal

pub loop-i-init : goal.loop-i-init
unfolding first_that
loop-i-init c = refl

pub returns-then-is_far : goal.returns-then-is_far
unfolding some_far whole_at
returns-then-is_far c = some-breaks _ _ _ c.loop-i.invariant c.loop-i-test.true (ap (far_from _) (sym (to_z-of_z {w = w64} (record { sfits = c.x-1.given }))) ∙ sym c.is_far.ensures ∙ c.if-is_far.true)

pub loop-i-preserved : goal.loop-i-preserved
unfolding whole_at
loop-i-preserved c = c.loop-i.invariant ∙ search-goes-on _ _ _ c.loop-i-test.true (ap (far_from _) (sym (to_z-of_z {w = w64} (record { sfits = c.x-1.given }))) ∙ sym c.is_far.ensures ∙ c.if-is_far.false)

pub returns : goal.returns
unfolding some_far
returns c = none-breaks _ _ _ c.loop-i.invariant c.loop-i-test.false
