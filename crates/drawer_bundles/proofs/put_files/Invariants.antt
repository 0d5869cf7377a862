-- `drawer_bundles::put_files` meets its contract: behind the header's place one file more with each turn.
-- Assumes nothing.
use Prim.Native.Nat.{◌+◌}
use mathlib.Core.Path.{◌≡◌}
use mathlib.Core.List.{◌++◌}
use lib.ListN.{length, take, drop}
use Rattle.bundle_bytes.specs.Pieces.{joined, piece_start}
use Rattle.bundle_layout.specs.Bundle.{header_size, file_at, pieces_of}
use Rattle.drawer_bundles.proofs.put_files.Given as goal

abbrev pub invariant-loop-i : goal.invariant-loop-i
invariant-loop-i l = (length l.out ≡ length l.initial.out) × (l.end ≡ header_size 20 + piece_start (pieces_of (file_at l.d)) l.i) × (l.out ≡ take (header_size 20) l.initial.out ++ joined (pieces_of (file_at l.d)) l.i ++ drop (header_size 20 + piece_start (pieces_of (file_at l.d)) l.i) l.initial.out)
