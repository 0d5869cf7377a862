-- For the code's sake alone: the elements that have a child, picked out of their table, and a record that names one of them.
use Rattle.std.specs.Prelude.{ℕ, zero, suc, Bool, cond, ◌&&◌, List, [], ◌∷◌, ◌++◌, length}
use Rattle.rule_cells.specs.Cells.{Table, table, start_of, is_given, text_of, same_text}
use Rattle.rule_outline.specs.Outline.{level_of, some_of}
use Rattle.rule_tree.specs.Tree.{has_child}
use Rattle.key_lookup.specs.Lookup.{is_found}
use Rattle.key_lookup.specs.declared.Lookup.{Lookup}

-- what is told of each of the first n elements, of those alone that pass a test
unfoldable pub picked : (ℕ → Bool) → (ℕ → ℕ) → ℕ → List ℕ
picked passes told zero = []
picked passes told (suc q) = cond (passes q) (picked passes told q ++ (told q ∷ [])) (picked passes told q)

-- where the IDs of those start that have a child, among the first m of n elements
abbrev pub parent_starts : Table → ℕ → ℕ → ℕ → ℕ → List ℕ
parent_starts u id level n m = picked (has_child (level_of u level) n) (λ (q : ℕ). start_of u.cells u.width q id) m

-- record r names a text that starts at one of the places of a list. The list is a table of one cell a record, in which the text is
-- field 0.
unfoldable pub names_one : Table → ℕ → List ℕ → List ℕ → ℕ → Bool
names_one t k bytes starts r =
    is_given t.cells t.width r k && some_of (λ (j : ℕ). same_text t r k (table bytes starts 1 0) j 0) (length starts)

-- the same, looked up in a list of these texts
unfoldable pub leaf_breaks_lookup : Table → ℕ → Table → Lookup → List ℕ → List ℕ → ℕ → Bool
leaf_breaks_lookup t k u l sums order r = is_given t.cells t.width r k && is_found u l sums order (text_of t r k)
