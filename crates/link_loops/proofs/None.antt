-- There is no loop where a rank falls along every link: it would fall all the way round.
-- Assumes nothing.
use Prim.Native.Nat.{ℕ, zero, suc, ◌+◌, ◌-◌, ◌≤◌, ◌<◌}
use mathlib.Core.Path.{◌≡◌}
use mathlib.Core.Bool.{Bool, true}
use mathlib.Core.List.{List}
use native.Mathlib.Omega.{arith}
use lib.ListN.{length, get_or}
use Rattle.link_loops.specs.Loop.{IsLoop}

module _ (leads : ℕ → ℕ → Bool) (n : ℕ) (rank : ℕ → ℕ)
    (falls : (x y : ℕ) → 0 < x → x ≤ n → 0 < y → y ≤ n → leads x y ≡ true → rank y < rank x) (ring : List ℕ) (l : IsLoop leads n ring) where
  falls-between : (i j : ℕ) → i < length ring → j < length ring → leads (get_or ring i 0) (get_or ring j 0) ≡ true → rank (get_or ring j 0) < rank (get_or ring i 0)
  falls-between i j a b e = falls _ _ (l.records i a).0 (l.records i a).1 (l.records j b).0 (l.records j b).1 e

  fallen : (i : ℕ) → i < length ring → rank (get_or ring i 0) + i ≤ rank (get_or ring 0 0)
  fallen zero h = omega arith
  fallen (suc i) h =
      omega (arith, fallen i (omega arith), falls-between i (suc i) (omega arith) h (l.next i h))

  pub no_loop : ⊥
  no_loop =
      omega (arith, l.some, fallen (length ring - 1) (omega (arith, l.some)), falls-between (length ring - 1) 0 (omega (arith, l.some)) l.some l.round)
