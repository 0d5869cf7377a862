-- For the code's sake alone: the files in the order in which they are moved, and what is there meanwhile.
use Rattle.std.specs.Prelude.{ℕ, ◌+◌, ◌≤◌, ◌<◌, ◌≡◌, Bool, cond, ◌&&◌, ◌||◌, List, [], length, get_or, ltb, leb, eqb}
use Rattle.bundle_layout.specs.Bundle.{header_size}
use Rattle.drawer_layout.specs.Places.{total, places_moved_down}
use Rattle.drawer_moves.specs.Painted.{painted, part_in}

-- file i has bytes, starts at c or later, and before the best one so far, if there is one
unfoldable pub is_next : ℕ → List ℕ → List ℕ → ℕ → ℕ → ℕ → Bool
is_next n offs lens c best i = ltb 0 (get_or lens i 0) && (leb c (get_or offs i 0) && (eqb best n || ltb (get_or offs i 0) (get_or offs best 0)))

-- of the first m files, the one r that starts first from c on and has bytes; n where none does
pub record Next (n : ℕ) (offs lens : List ℕ) (c m r : ℕ) : Type 0 where
  pub within : r ≤ n
  pub full : r < n → (0 < get_or lens r 0) × (c ≤ get_or offs r 0)
  pub least : (j : ℕ) → j < m → 0 < get_or lens j 0 → c ≤ get_or offs j 0 → (r < n) × (get_or offs r 0 ≤ get_or offs j 0)

-- the lengths of the files that start below c
unfoldable pub length_below : ℕ → List ℕ → List ℕ → ℕ → ℕ
length_below n offs lens c = total (λ j. cond (ltb (get_or offs j 0) c) (get_or lens j 0) 0) n

-- a drawer whose files that start below c are moved
unfoldable pub under_at : List ℕ → List ℕ → List ℕ → ℕ → ℕ → List ℕ
under_at d offs lens c i = cond (ltb (get_or offs i 0) c) (part_in d offs lens i) []

unfoldable pub moved_under : ℕ → List ℕ → List ℕ → List ℕ → ℕ → List ℕ
moved_under n d offs lens c = painted (under_at d offs lens c) (places_moved_down n offs lens) n d

pub record Moving (n : ℕ) (d offs lens : List ℕ) (c end i : ℕ) (now : List ℕ) : Type 0 where
  pub next : Next n offs lens c n i
  pub ends : end ≡ header_size n + length_below n offs lens c
  pub behind : end ≤ c
  pub same : length now ≡ length d
  pub is : now ≡ moved_under n d offs lens c
