-- `drawer_bundles::put_header` meets its contract: the count, and behind it one entry more with each turn.
-- Assumes nothing.
use Prim.Native.Nat.{◌+◌, ◌*◌}
use mathlib.Core.Path.{◌≡◌}
use mathlib.Core.List.{◌++◌}
use lib.ListN.{length, drop}
use Rattle.bundle_bytes.specs.Pieces.{piece_start}
use Rattle.bundle_layout.specs.Bundle.{header_size, file_at, pieces_of}
use Rattle.bundle.proofs.Laws.{fronts}
use Rattle.drawer_bundles.proofs.put_header.Given as goal

abbrev pub invariant-loop-i : goal.invariant-loop-i
invariant-loop-i l = (length l.out ≡ length l.initial.out) × (l.end ≡ header_size 20 + piece_start (pieces_of (file_at l.d)) l.i) × (l.out ≡ fronts 20 (file_at l.d) l.i ++ drop (4 + 8 * l.i) l.initial.out)
