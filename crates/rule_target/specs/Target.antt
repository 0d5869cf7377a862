-- A value that some record of another table, or of the same, must have too: marks 48 to 64, "Broken at a record exactly if
-- no target record has that ID", and marks 67, 73 and 74, each record has one there.
use Rattle.std.specs.Prelude.{ℕ, Bool, not, ◌&&◌, List, eqb}
use Rattle.json_same.specs.Same.{same_as}
use Rattle.json_same.specs.declared.Case.TheVariants.{Folded}
use Rattle.rule_cells.specs.Cells.{Table, table, is_given, text_of, first_that}
use Rattle.rule_when.specs.When.{holds_when}
use Rattle.rule_when.specs.declared.When.{When}

-- the first record of the target table whose field m is this text, from 1; 0 where none is
unfoldable pub target_of : List ℕ → Table → ℕ → ℕ
target_of text u m = first_that (λ (q : ℕ). same_as Folded text (text_of (table u.bytes u.cells u.width 0) q m)) u.records

-- record r breaks the rule: field k is given ("Null holds."), the record meets the condition, and no target record has it
unfoldable pub breaks_target : Table → ℕ → When → Table → ℕ → List ℕ → List ℕ → ℕ → Bool
breaks_target t k w u m places texts r =
    is_given t.cells t.width r k && (holds_when t r w places texts && eqb (target_of (text_of t r k) u m) 0)

unfoldable pub target_rule : Table → ℕ → When → Table → ℕ → List ℕ → List ℕ → ℕ
target_rule t k w u m places texts =
    first_that (breaks_target (table t.bytes t.cells t.width 0) k w u m places texts) t.records
