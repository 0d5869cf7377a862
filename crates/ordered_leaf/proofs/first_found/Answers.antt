-- `ordered_leaf::first_found` meets its contract: what is left of the search at the loop's head answers as the whole does.
use Prim.Native.Nat.{◌-◌}
use mathlib.Core.Path.{sym, ◌∙◌}
use native.Mathlib.Nat.{sub-zero}
use Rattle.rule_cells.specs.Cells.{first_that}
use Rattle.rule_cells.proofs.Laws.{search-hits, search-goes-on, search-ends}
use Rattle.ordered_leaf.proofs.first_found.Goals as goal

pub loop-r-init : goal.loop-r-init
unfolding first_that
loop-r-init c = rw sub-zero

pub returns-then-breaks_lookup : goal.returns-then-breaks_lookup
returns-then-breaks_lookup c = sym (c.loop-r.invariant ∙ search-hits _ _ _ c.loop-r-test.true (sym c.breaks_lookup.ensures ∙ c.if-breaks_lookup.true))

pub loop-r-preserved : goal.loop-r-preserved
loop-r-preserved c = c.loop-r.invariant ∙ search-goes-on _ _ _ c.loop-r-test.true (sym c.breaks_lookup.ensures ∙ c.if-breaks_lookup.false)

pub returns : goal.returns
returns c = sym (c.loop-r.invariant ∙ search-ends _ _ _ c.loop-r-test.false)
