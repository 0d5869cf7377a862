-- `entries::put_entries` meets its contract: after each turn the entries of the first i records are written.
use Rattle.std.proofs.Common.{◌≡◌, length}
use Rattle.parts.specs.Part.{part_of}
use Rattle.rule_cells.specs.Cells.{table}
use Rattle.entries.specs.Entries.{entry_of}
use Rattle.entries.proofs.Flat.{Listed}
use Rattle.entries.proofs.put_entries.Given as goal

abbrev pub invariant-loop-i : goal.invariant-loop-i
invariant-loop-i l = Listed (entry_of (table l.s (part_of l.initial.work l.from l.to) l.width 0) l.k) l.initial.work l.at l.order l.i l.work × (length l.work ≡ length l.initial.work)
