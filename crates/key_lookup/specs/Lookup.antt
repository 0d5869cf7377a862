-- For the code's sake alone: one or two texts looked up in a list of records that is in the order of their keys.
use Rattle.std.specs.Prelude.{ℕ, Bool, true, cond, not, ◌&&◌, List, [], ◌∷◌, map, length, get_or, ltb, eqb}
use Rattle.json_chars.specs.Chars.{chars_at}
use Rattle.json_same.specs.Same.{cased_as, same_as}
use Rattle.json_same.specs.declared.Case.TheVariants.{Folded}
use Rattle.key_sum.specs.Sum.{sum_of}
use Rattle.text_order.specs.Order.{order_of, may_precede}
use Rattle.text_order.specs.declared.Compared.{Compared}
use Rattle.number_search.specs.Search.{searched}
use Rattle.rule_cells.specs.Cells.{Table, text_of}
use Rattle.rule_key.specs.declared.Key.{Key}
use Rattle.key_order.specs.Order.{and_then}
use Rattle.key_lookup.specs.declared.Lookup.{Lookup}

-- the key by which the records are in order
abbrev pub key_of : Lookup → Key
key_of l = record { a = l.m; a_kind = 1; b = l.k; b_kind = l.kind; c = 0; c_kind = 0 }

-- ---- whether record q has what is looked up: field m is the text, and field k, where it is looked up too, the text at `also`
unfoldable pub has_texts : Table → Lookup → List ℕ → ℕ → Bool
has_texts u l text q =
    same_as Folded text (text_of u q l.m) && cond (eqb l.kind 1) (same_as Folded (chars_at u.bytes l.also) (text_of u q l.k)) true

-- ---- what is looked up beside record q: by the sum and the characters of the first text, and then by those of the second
abbrev pub first_parts : ℕ → List ℕ → List ℕ
first_parts sum text = sum ∷ map (cased_as Folded) text

unfoldable pub second_parts : Lookup → List ℕ → List ℕ
second_parts l text = cond (eqb l.kind 1) (map (cased_as Folded) text) []

unfoldable pub second_order : Table → Lookup → ℕ → Compared
second_order u l q = order_of (second_parts l (chars_at u.bytes l.also)) (second_parts l (text_of u q l.k))

-- record q stands before it: it may not stand before the record
unfoldable pub stands_before : Table → Lookup → List ℕ → ℕ → List ℕ → ℕ → Bool
stands_before u l sums sum text q =
    not (may_precede (and_then (order_of (first_parts sum text) (first_parts (get_or sums q 0) (text_of u q l.m))) (second_order u l q)))

-- its place among the records in a list, and whether the record there has it
unfoldable pub key_place : Table → Lookup → List ℕ → List ℕ → List ℕ → ℕ
key_place u l sums order text = searched (stands_before u l sums (sum_of (map (cased_as Folded) text)) text) order

unfoldable pub is_found : Table → Lookup → List ℕ → List ℕ → List ℕ → Bool
is_found u l sums order text =
    ltb (key_place u l sums order text) (length order) && has_texts u l text (get_or order (key_place u l sums order text) 0)
