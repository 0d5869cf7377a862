-- For the code's sake alone: mark 80, with the task of each parent looked up in a list of records.
use Rattle.std.specs.Prelude.{ℕ, ◌-◌, Bool, false, cond, not, List, eqb}
use Rattle.rule_cells.specs.Cells.{Table, text_of}
use Rattle.rule_outline.specs.Outline.{parent_shown}
use Rattle.key_lookup.specs.Lookup.{is_found}
use Rattle.key_lookup.specs.declared.Lookup.{Lookup}

-- record r breaks the rule: it has a parent that counts, and no task with the parent's TaskID and the type is found
unfoldable pub type_breaks_lookup : Table → ℕ → ℕ → (ℕ → ℕ) → Table → Lookup → List ℕ → List ℕ → ℕ → Bool
type_breaks_lookup t level task parents u l sums order r =
    cond (eqb (parent_shown t level parents r) 0) false (not (is_found u l sums order (text_of t (parent_shown t level parents r - 1) task)))
