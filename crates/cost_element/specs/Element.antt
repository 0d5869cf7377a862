-- The element of cost of an assignment: that of the resource with its ID. Document 02, order 11, "by element of cost";
-- document 002, sections 2.2.16, 2.2.19 and 2.4.9. Records and fields are counted from 0.
use Rattle.std.specs.Prelude.{ℕ, Bool, cond, ◌&&◌, List, [], length, get_or, ltb, leb}
use Rattle.mark_numbers.specs.Marks.{list_of}
use Rattle.table_fields.specs.Enumerations.{values_of}
use Rattle.rule_cells.specs.Cells.{Table, same_text, is_word, first_that}

-- ResourceID of an assignment; ID and ElementOfCostID of a resource
abbrev pub assigned_id : ℕ
assigned_id = 0

abbrev pub resource_id : ℕ
resource_id = 0

abbrev pub element_id : ℕ
element_id = 2

-- LABOR, MATERIAL, OTHER_DIRECT_COSTS and SUBCONTRACT, "four elements"
abbrev pub element_count : ℕ
element_count = 4

unfoldable pub element_name : ℕ → List ℕ
element_name e = get_or (values_of 9) e []

-- assignment r of table t is of element e: one of the first n resources, in table u, has its ID and that element
unfoldable pub has_element : Table → ℕ → Table → ℕ → ℕ → Bool
has_element t r u e q = same_text t r assigned_id u q resource_id && is_word u q element_id (element_name e)

unfoldable pub is_of : Table → Table → ℕ → ℕ → ℕ → Bool
is_of t u n r e = ltb 0 (first_that (has_element t r u e) n)

-- its element, from 1 to 4; 0 where there is none. An accepted set has one resource of an ID, so that there is just one
unfoldable pub element_of : Table → Table → ℕ → ℕ → ℕ
element_of t u n r = first_that (is_of t u n r) element_count

-- a list with the elements of as many assignments as it has places; as it was, where u has more resources than a table has records
unfoldable pub elements_after : Table → Table → ℕ → List ℕ → List ℕ
elements_after t u n list = cond (leb n 4096) (list_of (element_of t u n) (length list)) list
