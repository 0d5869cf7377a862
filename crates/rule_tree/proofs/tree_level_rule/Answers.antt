-- `rule_tree::tree_level_rule` meets its contract: what is left of the search at the loop's head answers as the whole does.
use mathlib.Core.Path.{sym, ◌∙◌}
use native.Mathlib.Omega.{arith}
use Rattle.rule_cells.proofs.Laws.{search-hits, search-goes-on, search-ends}
use Rattle.rule_tree.proofs.Laws.{next-told, before-next, no-levels, first-breaks, first-keeps}
use Rattle.rule_tree.proofs.tree_level_rule.Goals as goal

pub returns-then-table-eq0 : goal.returns-then-table-eq0
returns-then-table-eq0 c = no-levels _ _ (omega arith)

pub returns-then-above-ne-LEVEL_ONE : goal.returns-then-above-ne-LEVEL_ONE
returns-then-above-ne-LEVEL_ONE c = first-breaks _ _ (omega arith) c.level_of-above.ensures c.if-above-ne-LEVEL_ONE.true

pub loop-r-init : goal.loop-r-init
loop-r-init c = record { is_above = c.level_of-above.ensures; search = first-keeps _ _ (omega arith) c.level_of-above.ensures c.if-above-ne-LEVEL_ONE.false }

pub returns-then-next_breaks : goal.returns-then-next_breaks
returns-then-next_breaks c = sym (c.loop-r.invariant.search ∙ search-hits _ _ _ (omega arith) (next-told _ _ (omega arith) c.loop-r.invariant.is_above c.level_of-at.ensures c.next_breaks.ensures ∙ c.if-next_breaks.true))

pub loop-r-preserved : goal.loop-r-preserved
loop-r-preserved c =
    record {
      is_above = before-next _ _ _ c.level_of-at.ensures;
      search = c.loop-r.invariant.search ∙ search-goes-on _ _ _ (omega arith) (next-told _ _ (omega arith) c.loop-r.invariant.is_above c.level_of-at.ensures c.next_breaks.ensures ∙ c.if-next_breaks.false);
    }

pub returns : goal.returns
returns c = sym (c.loop-r.invariant.search ∙ search-ends _ _ _ (omega arith))
