-- `rule_outline::some_typed` meets its contract: what is left of the search at the loop's head answers as the whole does.
use mathlib.Core.Path.{◌≡◌}
use Prim.Native.Nat.{◌-◌}
use Rattle.rule_cells.specs.Cells.{first_from, first_that}
use Rattle.rule_cells.specs.Seen.{seen}
use Rattle.rule_outline.specs.Outline.{is_typed}
use Rattle.rule_outline.proofs.some_typed.Given as goal

abbrev pub invariant-loop-q : goal.invariant-loop-q
invariant-loop-q l =
    let typed = is_typed (seen l.table) l.p l.task (seen l.tasks) l.id l.type_field l.word in
    first_from typed (l.tasks.records - l.q) l.q ≡ first_that typed l.tasks.records
