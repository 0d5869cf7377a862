-- `rule_outline::climb` meets its contract: past a record that is not lower the search goes on at its parent.
use mathlib.Core.Path.{◌≡◌}
use Prim.Native.Nat.{◌≤◌}
use lib.ListN.{length}
use Rattle.rule_cells.specs.Seen.{seen}
use Rattle.rule_outline.specs.Outline.{level_of, lower_before}
use Rattle.rule_outline.proofs.climb.Given as goal

abbrev pub invariant-loop-p : goal.invariant-loop-p
invariant-loop-p l =
    let levels = level_of (seen l.table) l.level in
    (l.p ≤ length l.parents) × (lower_before levels l.low (length l.parents) ≡ lower_before levels l.low l.p)

abbrev pub decreases-loop-p : goal.decreases-loop-p
decreases-loop-p l = l.p
