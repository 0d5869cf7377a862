-- `bundle::put_header` meets its contract: the count, and behind it one entry more with each turn.
use Prim.Native.Nat.{◌+◌, ◌*◌}
use mathlib.Core.Path.{◌≡◌}
use mathlib.Core.List.{◌++◌}
use lib.ListN.{length, drop}
use Rattle.parts.specs.Files.{new_file}
use Rattle.bundle_bytes.specs.Pieces.{piece_start}
use Rattle.bundle_layout.specs.Bundle.{header_size, pieces_of}
use Rattle.bundle_layout.specs.Change.{files_after}
use Rattle.bundle.proofs.Laws.{fronts}
use Rattle.bundle.proofs.put_header.Given as goal

abbrev pub invariant-loop-i : goal.invariant-loop-i
invariant-loop-i l = (length l.out ≡ length l.initial.out) × (l.end ≡ header_size l.n + piece_start (pieces_of (files_after l.s l.k (new_file l.present l.new))) l.i) × (l.out ≡ fronts l.n (files_after l.s l.k (new_file l.present l.new)) l.i ++ drop (4 + 8 * l.i) l.initial.out)
