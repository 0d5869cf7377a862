-- `loop_text::put_links` meets its contract: after each turn i links are put.
-- Assumes nothing.
use mathlib.Core.Path.{◌≡◌}
use Rattle.output.specs.Output.{output_at, put}
use Rattle.bundle_bytes.specs.Pieces.{joined}
use Rattle.rule_cells.specs.Cells.{table}
use Rattle.loop_text.specs.Text.{link_line}
use Rattle.loop_text.proofs.put_links.Given as goal

abbrev pub invariant-loop-i : goal.invariant-loop-i
invariant-loop-i l = (output_at l.out l.end ≡ put (output_at l.initial.out l.at) (joined (link_line (table l.s l.cells 10 0) l.ring) l.i))
