-- `quarter_text::longest_in` meets its contract: after each turn it has the longest of those so far.
-- Assumes nothing.
use mathlib.Core.Path.{◌≡◌}
use Rattle.quarter_text.specs.Table.{longest_to}
use Rattle.quarter_text.proofs.longest_in.Given as goal

abbrev pub invariant-loop-x : goal.invariant-loop-x
invariant-loop-x l = l.found ≡ longest_to l.list l.x-index
