-- For the code's sake alone: the IDs of a table's links as numbers, so that two are equal exactly if the IDs are the same.
-- Records and fields are counted from 0.
use Rattle.std.specs.Prelude.{ℕ, Bool, cond, ◌&&◌, List, length, leb, eqb}
use Rattle.mark_numbers.specs.Marks.{list_of}
use Rattle.rule_cells.specs.Cells.{Table, text_of}
use Rattle.key_order.specs.Order.{sums_of, in_key_order}
use Rattle.key_lookup.specs.declared.Lookup.{Lookup}
use Rattle.key_lookup.specs.Lookup.{key_of, key_place, is_found}

-- PredecessorTaskID and SuccessorTaskID of a link
abbrev pub predecessor_id : ℕ
predecessor_id = 0

abbrev pub successor_id : ℕ
successor_id = 1

-- an ID looked up among the predecessors
abbrev pub by_predecessor : Lookup
by_predecessor = record { m = predecessor_id; k = 0; kind = 0; also = 0 }

-- its class: the place of the first link that has it as its predecessor, in a list of the links in the order of these; behind
-- all of them where there is none
unfoldable pub class_in : Table → List ℕ → List ℕ → List ℕ → ℕ
class_in t sums order text =
    cond (is_found t by_predecessor sums order text) (key_place t by_predecessor sums order text) (length order)

-- the class of field k of record r, among n links
unfoldable pub class_of : Table → ℕ → ℕ → ℕ → ℕ
class_of t n k r = class_in t (sums_of t predecessor_id n) (in_key_order t (key_of by_predecessor) n) (text_of t r k)

-- two lists of one length, of no more links than a table has; any others are left as they are
unfoldable pub are_columns : List ℕ → List ℕ → Bool
are_columns from to = leb (length from) 4096 && eqb (length to) (length from)

unfoldable pub column_after : Table → ℕ → Bool → List ℕ → List ℕ
column_after t k fit list = cond fit (list_of (class_of t (length list) k) (length list)) list
