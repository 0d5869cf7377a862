-- `ordered_outline::first_with` meets its contract: what is left of the search at the loop's head answers as the whole does.
use Prim.Native.Nat.{◌-◌}
use mathlib.Core.Path.{sym, ◌∙◌}
use native.Mathlib.Nat.{sub-zero}
use Rattle.rule_cells.specs.Cells.{is_word, first_that}
use Rattle.rule_cells.proofs.Laws.{search-hits, search-goes-on, search-ends}
use Rattle.ordered_outline.proofs.first_with.Goals as goal

pub loop-q-init : goal.loop-q-init
unfolding first_that
loop-q-init c = rw sub-zero

pub returns-then-is_word : goal.returns-then-is_word
returns-then-is_word c = sym (c.loop-q.invariant ∙ search-hits _ _ _ c.loop-q-test.true (sym c.is_word.ensures ∙ c.if-is_word.true))

pub loop-q-preserved : goal.loop-q-preserved
loop-q-preserved c = c.loop-q.invariant ∙ search-goes-on _ _ _ c.loop-q-test.true (sym c.is_word.ensures ∙ c.if-is_word.false)

pub returns : goal.returns
returns c = sym (c.loop-q.invariant ∙ search-ends _ _ _ c.loop-q-test.false)
