-- For the code's sake alone: entries as plain numbers, four each, in a lent list of numbers.
use Rattle.std.specs.Prelude.{ℕ, zero, suc, ◌+◌, ◌*◌, Bool, cond, ◌&&◌, List, [], ◌∷◌, ◌++◌, length, nat_le, nat_lt, slice_index}
use Rattle.parts.specs.Part.{part_of}
use Rattle.rule_cells.specs.Cells.{Table, table}
use Rattle.entries.specs.declared.Entry.{Entry}
use Rattle.entries.specs.Entries.{entries_of}

-- ---- Entries as numbers, and back
unfoldable pub entry_numbers : Entry → List ℕ
entry_numbers e = e.start ∷ e.length ∷ e.sum ∷ e.«record» ∷ []

unfoldable pub flat_of : List Entry → List ℕ
flat_of [] = []
flat_of (e ∷ es) = entry_numbers e ++ flat_of es

unfoldable pub entry_in : List ℕ → ℕ → Entry
entry_in flat at =
    record { start = slice_index flat at; length = slice_index flat (at + 1); sum = slice_index flat (at + 2); «record» = slice_index flat (at + 3) }

-- the first n entries from a place on
unfoldable pub entries_in : List ℕ → ℕ → ℕ → List Entry
entries_in flat from zero = []
entries_in flat from (suc n) = entries_in flat from n ++ (entry_in flat (from + 4 * n) ∷ [])

-- ---- The entries of the first n records of the table whose cells stand in a list from one place up to another, for a place at
-- which they are to be written: none where there is no room for them behind the cells
unfoldable pub fits_at : List ℕ → ℕ → ℕ → ℕ → ℕ → ℕ → Bool
fits_at work from to k n at = nat_le from to && (nat_le to at && (nat_le (at + 16384) (length work) && (nat_lt k 64 && nat_le n 4096)))

unfoldable pub listed_in : List ℕ → List ℕ → ℕ → ℕ → ℕ → ℕ → ℕ → ℕ → List Entry
listed_in s work from to width k n at =
    cond (fits_at work from to k n at) (entries_of (table s (part_of work from to) width 0) k n) []
