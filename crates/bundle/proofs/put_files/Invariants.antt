-- `bundle::put_files` meets its contract: behind the header's place one file more with each turn.
use Prim.Native.Nat.{◌+◌}
use mathlib.Core.Path.{◌≡◌}
use mathlib.Core.List.{◌++◌}
use lib.ListN.{length, take, drop}
use Rattle.parts.specs.Files.{new_file}
use Rattle.bundle_bytes.specs.Pieces.{joined, piece_start}
use Rattle.bundle_layout.specs.Bundle.{header_size, pieces_of}
use Rattle.bundle_layout.specs.Change.{files_after}
use Rattle.bundle.proofs.put_files.Given as goal

abbrev pub invariant-loop-i : goal.invariant-loop-i
invariant-loop-i l = (length l.out ≡ length l.initial.out) × (l.end ≡ header_size l.n + piece_start (pieces_of (files_after l.s l.k (new_file l.present l.new))) l.i) × (l.out ≡ take (header_size l.n) l.initial.out ++ joined (pieces_of (files_after l.s l.k (new_file l.present l.new))) l.i ++ drop (header_size l.n + piece_start (pieces_of (files_after l.s l.k (new_file l.present l.new))) l.i) l.initial.out)
