-- `rule_value::which_of` meets its contract: what is left of the search at the loop's head answers as the whole does.
use mathlib.Core.Path.{◌≡◌}
use Prim.Native.Nat.{◌+◌, ◌-◌}
use Rattle.rule_cells.specs.Seen.{cells_seen}
use Rattle.rule_value.specs.Value.{is_one_of}
use Rattle.rule_value.proofs.which_of.Given as goal

abbrev pub invariant-loop-i : goal.invariant-loop-i
invariant-loop-i l =
    is_one_of (cells_seen l.table) l.r l.k l.places l.texts (l.n - l.i) (l.from + l.i) ≡ is_one_of (cells_seen l.table) l.r l.k l.places l.texts l.count l.first
