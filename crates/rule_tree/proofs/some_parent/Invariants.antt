-- `rule_tree::some_parent` meets its contract: what is left of the search at the loop's head answers as the whole does.
use mathlib.Core.Path.{◌≡◌}
use Prim.Native.Nat.{◌-◌}
use Rattle.rule_cells.specs.Cells.{first_from, first_that}
use Rattle.rule_cells.specs.Seen.{seen}
use Rattle.rule_tree.specs.Tree.{names_a_parent}
use Rattle.rule_tree.proofs.some_parent.Given as goal

abbrev pub invariant-loop-q : goal.invariant-loop-q
invariant-loop-q l =
    let names = names_a_parent (seen l.table) l.r l.k (seen l.elements) l.id l.level in
    first_from names (l.elements.records - l.q) l.q ≡ first_that names l.elements.records
