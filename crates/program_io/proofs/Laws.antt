-- Bytes written one behind the other.
-- Assumes nothing.
use Prim.Native.Nat.{ℕ, ◌+◌, ◌≤◌}
use mathlib.Core.Path.{◌≡◌, sym}
use mathlib.Core.List.{List, ◌++◌, append_assoc}
use native.Mathlib.Omega.{arith}
use lib.ListN.{length, take, drop, length-append}
use lib.Seq.{length-take-le, take_at}
use Rattle.bundle_bytes.specs.Pieces.{written}
use Rattle.bundle_bytes.proofs.Laws.{written-fits, written-length, written_back}

module _ (d : List ℕ) (at : ℕ) (u v : List ℕ) (room : at + length u + length v ≤ length d) where
  front : take (at + length u) (written d at u) ≡ take at d ++ u
  front =
      rw (written-fits d at u (omega arith))
      (take_at (take at d ++ u) (drop (at + length u) d) (at + length u) (omega (arith, length-append (take at d) u, length-take-le at d (omega arith))))

  together : at + length u + length v ≡ at + length (u ++ v)
  together = omega (arith, length-append u v)

  pub written_both : written (written d at u) (at + length u) v ≡ written d at (u ++ v)
  written_both =
      rw (written-fits (written d at u) (at + length u) v (omega (arith, written-length d at u)), front, written_back d at u (at + length u + length v) (omega arith), append_assoc (take at d) u v, together)
      (sym (written-fits d at (u ++ v) (omega (arith, together))))
