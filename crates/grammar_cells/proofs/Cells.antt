-- The cells of a record when one field's are stored, and when all are made 0.
-- Assumes nothing.
use Prim.Native.Nat.{ℕ, zero, suc, ◌+◌, ◌*◌, ◌≤◌, ◌<◌}
use mathlib.Core.Path.{◌≡◌, refl, ap, ◌∙◌}
use mathlib.Core.Logic.{◌≢◌}
use mathlib.Core.List.{List}
use native.Mathlib.Decide.{ℕ_discrete}
use native.Mathlib.Omega.{arith}
use lib.ListN.{length, get_or, set, length-set}
use lib.Seq.{get_or-set_same, get_or-set_other}
use Rattle.table_record.specs.Record.{start_cell, end_cell, stored, cleared}

-- ---- One field stored
module _ (cells : List ℕ) (base k start end : ℕ) where
  pub stored-length : length (stored cells base k start end) ≡ length cells
  unfolding stored
  stored-length = length-set (set cells (base + 2 * k) start) (base + 2 * k + 1) end ∙ length-set cells (base + 2 * k) start

  module _ (room : base + 2 * k + 1 < length cells) where
    pub start-same : start_cell (stored cells base k start end) base k ≡ start
    unfolding start_cell stored
    start-same =
        get_or-set_other (set cells (base + 2 * k) start) (base + 2 * k + 1) (base + 2 * k) end 0 (omega arith)
        ∙ get_or-set_same cells (base + 2 * k) start 0 (omega arith)

    pub end_same : end_cell (stored cells base k start end) base k ≡ end
    unfolding end_cell stored
    end_same =
        get_or-set_same (set cells (base + 2 * k) start) (base + 2 * k + 1) end 0
        (omega (arith, length-set cells (base + 2 * k) start))

  module _ (j : ℕ) (n : j ≢ k) where
    pub start-other : start_cell (stored cells base k start end) base j ≡ start_cell cells base j
    unfolding start_cell stored
    start-other =
        get_or-set_other (set cells (base + 2 * k) start) (base + 2 * k + 1) (base + 2 * j) end 0 (omega arith)
        ∙ get_or-set_other cells (base + 2 * k) (base + 2 * j) start 0 (omega arith)

    pub end-other : end_cell (stored cells base k start end) base j ≡ end_cell cells base j
    unfolding end_cell stored
    end-other =
        get_or-set_other (set cells (base + 2 * k) start) (base + 2 * k + 1) (base + 2 * j + 1) end 0 (omega arith)
        ∙ get_or-set_other cells (base + 2 * k) (base + 2 * j + 1) start 0 (omega arith)

-- ---- All made 0
module _ (cells : List ℕ) (base : ℕ) where
  pub cleared-length : (n : ℕ) → length (cleared cells base n) ≡ length cells
  unfolding cleared
  cleared-length zero = refl
  cleared-length (suc n) = length-set (cleared cells base n) (base + n) 0 ∙ cleared-length n

  cleared_at : (n j : ℕ) → j < n → base + n ≤ length cells → get_or (cleared cells base n) (base + j) 0 ≡ 0
  unfolding cleared
  cleared_at zero j l m = absurd (omega arith)
  cleared_at (suc n) j l m = go (cleared_at n j) (ℕ_discrete j n)
    where
      go : (j < n → base + n ≤ length cells → get_or (cleared cells base n) (base + j) 0 ≡ 0) → Dec (j ≡ n) → get_or (set (cleared cells base n) (base + n) 0) (base + j) 0 ≡ 0
      go rest (yes e) = rw e (get_or-set_same (cleared cells base n) (base + n) 0 0 (omega (arith, cleared-length n)))
      go rest (no o) =
          get_or-set_other (cleared cells base n) (base + n) (base + j) 0 0 (omega arith) ∙ rest (omega arith) (omega arith)

  module _ (count k : ℕ) (l : k < count) (room : base + 2 * count ≤ length cells) where
    pub start-cleared : start_cell (cleared cells base (2 * count)) base k ≡ 0
    unfolding start_cell
    start-cleared = cleared_at (2 * count) (2 * k) (omega arith) room

    pub end-cleared : end_cell (cleared cells base (2 * count)) base k ≡ 0
    unfolding end_cell
    end-cleared =
        ap (λ (i : ℕ). get_or (cleared cells base (2 * count)) i 0) (plus base (2 * k))
        ∙ cleared_at (2 * count) (2 * k + 1) (omega arith) room
      where
        plus : (a b : ℕ) → a + b + 1 ≡ a + (b + 1)
        plus a b = omega arith
