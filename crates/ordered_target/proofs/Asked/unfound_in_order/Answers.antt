-- `ordered_target::Asked::unfound_in_order` meets its contract: the lists hold the order of the target records, so the record where the walk ends breaks the rule.
use Rattle.std.proofs.Common.{sym, refl, ◌∙◌, arith}
use Rattle.rule_cells.proofs.Laws.{search-hits, search-ends}
use Rattle.ordered_target.proofs.Laws.{filled}
use Rattle.ordered_target.proofs.Asked.unfound_in_order.Goals as goal

pub first_unfound-r-requires : goal.first_unfound-r-requires
first_unfound-r-requires c = λ e.
    filled _ _ _ _ _ _ _ _ _ _ c.one_text.ensures c.key_of.ensures c.requires.1 c.requires.0 c.key_order.ensures.1 c.key_order.ensures.2

pub returns-then-r-self : goal.returns-then-r-self
returns-then-r-self c = sym (c.first_unfound-r.ensures.first_kept ∙ search-hits _ _ _ c.if-r-self.true (c.first_unfound-r.ensures.result_breaks refl c.if-r-self.true))

pub returns : goal.returns
returns c = sym (c.first_unfound-r.ensures.first_kept ∙ search-ends _ _ _ c.if-r-self.false)
