-- `ordered_target::target_rule_by_order` meets its contract: no record before the one where the guesses end breaks the rule, and none before the one
-- where the slots end.
use Rattle.std.proofs.Common.{sym, ◌∙◌, true≢false}
use Rattle.rule_cells.proofs.Laws.{search-ends}
use Rattle.rule_target.specs.Target.{target_rule}
use Rattle.ordered_target.proofs.Laws.{from_first}
use Rattle.ordered_target.proofs.target_rule_by_order.Goals as goal

pub first_unfound-from-requires : goal.first_unfound-from-requires
first_unfound-from-requires c = λ e. absurd (true≢false (sym e))

pub returns-then-then-table : goal.returns-then-then-table
unfolding target_rule
returns-then-then-table c = c.unfound_from.ensures ∙ sym (c.first_unfound-from.ensures.first_kept ∙ c.unslotted_from-then.ensures) ∙ from_first _ _

pub returns-else-then-table : goal.returns-else-then-table
unfolding target_rule
returns-else-then-table c = sym (c.first_unfound-from.ensures.first_kept ∙ c.unslotted_from-then.ensures ∙ search-ends _ _ _ c.if-then-table.false) ∙ from_first _ _

pub returns-else-from-table : goal.returns-else-from-table
unfolding target_rule
returns-else-from-table c = sym (c.first_unfound-from.ensures.first_kept ∙ search-ends _ _ _ c.if-from-table.false) ∙ from_first _ _
