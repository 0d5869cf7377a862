-- `rule_target::target_of` meets its contract: what is left of the search at the loop's head answers as the whole does.
use mathlib.Core.Path.{◌≡◌}
use Prim.Native.Nat.{ℕ, ◌-◌}
use Rattle.json_chars.specs.Chars.{chars_at}
use Rattle.rule_cells.specs.Cells.{first_from, first_that}
use Rattle.rule_cells.specs.Seen.{cells_seen}
use Rattle.rule_target.proofs.Laws.{has_text}
use Rattle.rule_target.proofs.target_of.Given as goal

abbrev pub invariant-loop-q : goal.invariant-loop-q
invariant-loop-q l =
    let has = has_text (chars_at l.s l.at) (cells_seen l.targets) l.m in
    first_from has (l.targets.records - l.q) l.q ≡ first_that has l.targets.records
