-- `rule_outline::level_rule` meets its contract: what is left of the search at the loop's head answers as the whole does.
use mathlib.Core.Path.{refl, sym, ◌∙◌}
use native.Mathlib.Omega.{arith}
use Rattle.std.proofs.lemmas.Grind.{common_steps}
use Rattle.rule_cells.specs.Cells.{first_that}
use Rattle.rule_cells.proofs.Laws.{search-hits, search-goes-on}
use Rattle.rule_outline.specs.Outline.{level_rule}
use Rattle.rule_outline.proofs.Laws.{level_above, run-told, above-next}
use Rattle.rule_outline.proofs.level_rule.Goals as goal

pub loop-r-init : goal.loop-r-init
unfolding level_above first_that
loop-r-init c = record { is_above = refl; search = grind (arith, common_steps) }

pub returns-then-run_breaks : goal.returns-then-run_breaks
unfolding level_rule
returns-then-run_breaks c = sym (sym c.loop-r.invariant.search ∙ search-hits _ _ _ (omega arith) (run-told _ _ c.loop-r.invariant.is_above c.level_of-at.ensures c.run_breaks.ensures ∙ c.if-run_breaks.true))

pub loop-r-preserved : goal.loop-r-preserved
loop-r-preserved c =
    record {
      is_above = above-next _ _ c.level_of-at.ensures;
      search = sym (search-goes-on _ _ _ (omega arith) (run-told _ _ c.loop-r.invariant.is_above c.level_of-at.ensures c.run_breaks.ensures ∙ c.if-run_breaks.false)) ∙ c.loop-r.invariant.search;
    }
