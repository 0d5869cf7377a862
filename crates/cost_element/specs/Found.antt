-- For the code's sake alone: the resource of an assignment looked up in a list of the resources in order of ID and element.
use Rattle.std.specs.Prelude.{ℕ, ◌-◌, Bool, false, cond, List, get_or, eqb}
use Rattle.rule_cells.specs.Cells.{Table, start_of, is_word, first_that}
use Rattle.key_lookup.specs.declared.Lookup.{Lookup}
use Rattle.key_lookup.specs.Lookup.{is_found}
use Rattle.cost_element.specs.Element.{resource_id, element_id, element_count, element_name}

-- the first resource of element e, from 1: there the element's name stands as a string of the table; 0 for none
unfoldable pub first_of_element : Table → ℕ → ℕ → ℕ
first_of_element u n e = first_that (λ (q : ℕ). is_word u q element_id (element_name e)) n

-- a text in field ID, and in field ElementOfCostID that which stands at a place
abbrev pub lookup_at : ℕ → Lookup
lookup_at also = record { m = resource_id; k = element_id; kind = 1; also = also }

unfoldable pub is_of_found : Table → List ℕ → List ℕ → List ℕ → List ℕ → ℕ → Bool
is_of_found u firsts sums order text e =
    cond (eqb (get_or firsts e 0) 0) false (is_found u (lookup_at (start_of u.cells u.width (get_or firsts e 0 - 1) element_id)) sums order text)

unfoldable pub element_found : Table → List ℕ → List ℕ → List ℕ → List ℕ → ℕ
element_found u firsts sums order text = first_that (is_of_found u firsts sums order text) element_count
