-- The searches for a key's repetition, by the functions of a record that they go over.
-- Assumes nothing.
use Prim.Native.Nat.{ℕ, ◌-◌}
use mathlib.Core.Path.{◌≡◌, refl}
use mathlib.Core.Bool.{Bool}
use lib.Dec.{ltb}
use Rattle.rule_cells.specs.Cells.{Table, text_of, same_text, integer_in, date_in, first_that}
use Rattle.rule_cells.specs.declared.Table.{Table as Lent}
use Rattle.rule_cells.specs.Seen.{seen, cells_seen}
use Rattle.rule_key.specs.declared.Key.{Key}
use Rattle.rule_key.specs.Key.{same_field, same_key, earliest, repeats, key_rule}

-- ---- The search for the earliest record with i's key
unfoldable pub has_key_of : Table → Key → ℕ → ℕ → Bool
has_key_of t key i j = same_key t key j i

pub key-told : (t : Table) (key : Key) (i j : ℕ) → has_key_of t key i j ≡ same_key t key j i
unfolding has_key_of
key-told t key i j = refl

pub earliest_first : (t : Table) (key : Key) (i : ℕ) → earliest t key i ≡ first_that (has_key_of t key i) i
unfolding earliest has_key_of
earliest_first t key i = refl

pub ruleset comparing = (key-told, earliest_first)

-- ---- The search for the first record that repeats a key
-- how many records there are is no matter for it
pub repeats-told : (t : Lent) (key : Key) (i : ℕ) → repeats (seen t) key i ≡ ltb 0 (earliest (cells_seen t) key i)
unfolding repeats earliest same_key same_field same_text text_of integer_in date_in
repeats-told t key i = refl

pub earliest-any : (t : Lent) (key : Key) (i : ℕ) → earliest (seen t) key i ≡ earliest (cells_seen t) key i
unfolding earliest same_key same_field same_text text_of integer_in date_in
earliest-any t key i = refl

-- the answer, by what the search finds
pub rule-is : (t : Table) (key : Key) (r e : ℕ) → first_that (repeats t key) t.records ≡ r → earliest t key (r - 1) ≡ e → key_rule t key ≡ record { «record» = r; same = e }
unfolding key_rule
rule-is t key r e p q = rw (p, q)
