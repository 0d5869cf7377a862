-- An outline by a column of Levels: marks 78, 79 and 80 of document 01. Records are counted from 0, and a parent, as a
-- place of a mark, from 1, with 0 for none. What orders the records is a function from record to Level.
use Rattle.std.specs.Prelude.{ℕ, zero, suc, ◌+◌, ◌-◌, Bool, true, false, cond, not, ◌&&◌, List, [], ◌∷◌, ◌++◌, length, get_or, drop, ltb, leb, eqb}
use Rattle.json_number.specs.declared.Integer.{Integer}
use Rattle.json_number.specs.declared.Integer.TheVariants.{Is, Fraction, TooLarge}
use Rattle.rule_cells.specs.Cells.{Table, is_given, same_text, is_word, integer_in, first_that}
use Rattle.rule_outline.specs.declared.Outline.{Outline}

-- ---- Levels
-- an Integer as a natural number, ten to the fifteenth more, so that their order is the order of naturals; what no
-- readable table holds as an Integer is 0, below every Level
abbrev pub level_zero : ℕ
level_zero = 1000000000000000

abbrev pub level_one : ℕ
level_one = 1000000000000001

unfoldable pub raised : Integer → ℕ
raised (Is negative magnitude) = cond negative (level_zero - magnitude) (level_zero + magnitude)
raised Fraction = 0
raised TooLarge = 0

-- the Level of record r, in field `level`
unfoldable pub level_of : Table → ℕ → ℕ → ℕ
level_of t level r = raised (integer_in t r level)

-- ---- Parents
-- the nearest of the first n records that is of lower Level than l
unfoldable pub lower_before : (ℕ → ℕ) → ℕ → ℕ → ℕ
lower_before levels l zero = 0
lower_before levels l (suc n) = elim (ltb (levels n) l) [ true ↦ suc n | false ↦ lower_before levels l n ]

-- "its parent, the nearest earlier record of lower Level"
unfoldable pub parent_by : (ℕ → ℕ) → ℕ → ℕ
parent_by levels r = lower_before levels (levels r) r

abbrev pub parent_of : Table → ℕ → ℕ → ℕ
parent_of t level r = parent_by (level_of t level) r

-- the parents of the first n records, in their order
unfoldable pub parents_up_to : (ℕ → ℕ) → ℕ → List ℕ
parents_up_to levels zero = []
parents_up_to levels (suc n) = parents_up_to levels n ++ (parent_by levels n ∷ [])

-- a lent list has room for the parents of n records; no table has over 4,096
unfoldable pub parents_have_room : ℕ → List ℕ → Bool
parents_have_room n list = leb n 4096 && leb n (length list)

-- the list with the parents of a table's records at its front, and as it was without room for them
unfoldable pub with_parents : Table → ℕ → List ℕ → List ℕ
with_parents t level list =
    cond (parents_have_room t.records list) (parents_up_to (level_of t level) t.records ++ drop t.records list) list

-- the parent that a list has for record r
unfoldable pub held_in : List ℕ → ℕ → ℕ
held_in list r = get_or list r 0

-- ---- Mark 78: "first Level 1, every Level at least 1, each at most one more than the one before"
unfoldable pub run_breaks : ℕ → ℕ → Bool
run_breaks before at = not (leb level_one at && leb at (before + 1))

unfoldable pub level_breaks : (ℕ → ℕ) → ℕ → Bool
level_breaks levels zero = not (eqb (levels 0) level_one)
level_breaks levels (suc r) = run_breaks (levels r) (levels (suc r))

unfoldable pub level_rule : Table → ℕ → ℕ
level_rule t level = first_that (level_breaks (level_of t level)) t.records

-- ---- What marks 79 and 80 answer, over the parents of the records: with `parent_of t level`, document 01's
-- the breaking record, and its parent: 0 where it has none, or is of Level 1
unfoldable pub parent_shown : Table → ℕ → (ℕ → ℕ) → ℕ → ℕ
parent_shown t level parents r = cond (eqb (level_of t level r) level_one) 0 (parents r)

unfoldable pub outline_at : Table → ℕ → (ℕ → ℕ) → ℕ → Outline
outline_at t level parents zero = record { «record» = 0; parent = 0 }
outline_at t level parents (suc r) = record { «record» = suc r; parent = parent_shown t level parents r }

-- Mark 79: "Level 1 has null ParentTaskID; any other has the TaskID of its parent ..; broken if there is no such record"
unfoldable pub parent_breaks : Table → ℕ → ℕ → ℕ → (ℕ → ℕ) → ℕ → Bool
parent_breaks t level task parent parents r =
    cond (eqb (level_of t level r) level_one) (is_given t.cells t.width r parent)
    (cond (eqb (parents r) 0) true
    (not (is_given t.cells t.width r parent && same_text t r parent t (parents r - 1) task)))

unfoldable pub parent_rule : Table → ℕ → ℕ → ℕ → (ℕ → ℕ) → Outline
parent_rule t level task parent parents =
    outline_at t level parents (first_that (parent_breaks t level task parent parents) t.records)

-- some of n records
unfoldable pub some_of : (ℕ → Bool) → ℕ → Bool
some_of holds n = ltb 0 (first_that holds n)

-- task q has the TaskID of record p, and the type that a word names
unfoldable pub is_typed : Table → ℕ → ℕ → Table → ℕ → ℕ → List ℕ → ℕ → Bool
is_typed t p task u id type word q = same_text t p task u q id && is_word u q type word

-- Mark 80: "for each record with Level other than 1 and a parent, some task with the parent's TaskID is SUMMARY"
unfoldable pub parent_type_breaks : Table → ℕ → ℕ → (ℕ → ℕ) → Table → ℕ → ℕ → List ℕ → ℕ → Bool
parent_type_breaks t level task parents u id type word r =
    cond (eqb (level_of t level r) level_one) false
    (cond (eqb (parents r) 0) false (not (some_of (is_typed t (parents r - 1) task u id type word) u.records)))

unfoldable pub parent_type_rule : Table → ℕ → ℕ → (ℕ → ℕ) → Table → ℕ → ℕ → List ℕ → Outline
parent_type_rule t level task parents u id type word =
    outline_at t level parents (first_that (parent_type_breaks t level task parents u id type word) t.records)
