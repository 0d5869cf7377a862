-- `rules::key_break` meets its contract: keys that ascend break nothing, nor do those that differ within each group.
use mathlib.Core.Path.{ap}
use Rattle.ordered_key.proofs.Ascending.{ascending-gives-rule}
use Rattle.ordered_key.proofs.Grouped.{grouped-gives-rule}
use Rattle.rules.specs.Judge.{of_key}
use Rattle.rules.proofs.key_break.Goals as goal

pub returns-then-is_ascending : goal.returns-then-is_ascending
returns-then-is_ascending c = ap of_key (ascending-gives-rule _ _ _ _ _ _ c.is_ascending.ensures c.if-is_ascending.true)

pub returns-then-is_grouped : goal.returns-then-is_grouped
returns-then-is_grouped c = ap of_key (grouped-gives-rule _ _ _ _ _ _ c.is_grouped.ensures c.if-is_grouped.true)
