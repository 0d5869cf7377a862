-- The entries of a table. Document 02, order 7: "Keep one entry for each record: its number, where its key's text starts in the
-- file (after the quote), the length as written (without quotes), and a 32-bit sum".
use Rattle.std.specs.Prelude.{ℕ, ◌+◌, ◌-◌, ◌*◌, ◌%◌, ◌^◌, List, map}
use Rattle.rule_cells.specs.Cells.{Table, cell_of, start_of}
use Rattle.rule_key.specs.declared.Key.{Key}
use Rattle.key_order.specs.Order.{field_sum, in_key_order}
use Rattle.entries.specs.declared.Entry.{Entry}

-- each number of an entry has 32 bits; a place in a file and a record's number are far smaller
unfoldable pub wrapped : ℕ → ℕ
wrapped x = x % 2 ^ 32

-- of record r, counted from 0, with its key's text in field k: its cells are the place of the opening quote and the place
-- behind the closing one
unfoldable pub entry_of : Table → ℕ → ℕ → Entry
entry_of t k r =
    record {
      start = wrapped (start_of t.cells t.width r k + 1);
      length = cell_of t.cells t.width r (2 * k + 1) - start_of t.cells t.width r k - 2;
      sum = field_sum t k r;
      «record» = wrapped (r + 1);
    }

-- "ordered by sum and then record": a key with no fields to compare beside the sum of field k
unfoldable pub sum_alone : ℕ → Key
sum_alone k = record { a = k; a_kind = 0; b = 0; b_kind = 0; c = 0; c_kind = 0 }

-- "Of several key fields the entry describes the first": field k
unfoldable pub entries_of : Table → ℕ → ℕ → List Entry
entries_of t k n = map (entry_of t k) (in_key_order t (sum_alone k) n)
