-- Marks 20 to 35. Document 01: "Broken at a record whose key equals an earlier one's. A null Ordinal is 0."
use Rattle.std.specs.Prelude.{ℕ, ◌-◌, Bool, true, false, Some, None, cond, ◌&&◌, ltb, eqb}
use Rattle.json_number.specs.Number.{same_sign}
use Rattle.json_number.specs.declared.Integer.{Integer}
use Rattle.json_number.specs.declared.Integer.TheVariants.{Is, Fraction, TooLarge}
use Rattle.json_date.specs.Date.{Date}
use Rattle.rule_cells.specs.Cells.{Table, same_text, integer_in, date_in, first_that}
use Rattle.rule_key.specs.declared.Key.{Key}
use Rattle.rule_key.specs.declared.KeyBreak.{KeyBreak}

-- ---- "IDs … are compared with A–Z folded to a–z in every rule; integers and dates by value"
-- one sign and one magnitude; what is no Integer equals nothing, and stands in no readable table
unfoldable pub same_integer : Integer → Integer → Bool
same_integer (Is m x) (Is n y) = eqb x y && same_sign m n
same_integer (Is m x) Fraction = false
same_integer (Is m x) TooLarge = false
same_integer Fraction b = false
same_integer TooLarge b = false

-- one year, month and day; what is no Date equals nothing, and stands in no readable table
unfoldable pub same_date : Date → Date → Bool
same_date (Some a) (Some b) = eqb a.year b.year && (eqb a.month b.month && eqb a.day b.day)
same_date (Some a) None = false
same_date None b = false

-- field k of records i and j, by its kind: 1 an ID, 2 an Integer, a null being 0, 3 a Date; any other is no field of the key
unfoldable pub same_field : Table → ℕ → ℕ → ℕ → ℕ → Bool
same_field t kind k i j =
    cond (eqb kind 1) (same_text t i k t j k)
    (cond (eqb kind 2) (same_integer (integer_in t i k) (integer_in t j k))
    (cond (eqb kind 3) (same_date (date_in t i k) (date_in t j k)) true))

-- a key of one to three fields
unfoldable pub same_key : Table → Key → ℕ → ℕ → Bool
same_key t key i j =
    same_field t key.a_kind key.a i j && (same_field t key.b_kind key.b i j && same_field t key.c_kind key.c i j)

-- ---- The rule
-- the earliest record before i that has i's key, counted from 1; 0 for none
unfoldable pub earliest : Table → Key → ℕ → ℕ
earliest t key i = first_that (λ j. same_key t key j i) i

-- "a record whose key equals an earlier one's"
unfoldable pub repeats : Table → Key → ℕ → Bool
repeats t key i = ltb 0 (earliest t key i)

-- the first such record and the earliest with its key, both counted from 1; 0 and 0 where there is none
unfoldable pub key_rule : Table → Key → KeyBreak
key_rule t key =
    let first = first_that (repeats t key) t.records in
    record { «record» = first; same = earliest t key (first - 1) }
