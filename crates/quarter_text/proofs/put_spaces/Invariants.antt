-- `quarter_text::put_spaces` meets its contract: after each turn i spaces are put.
-- Assumes nothing.
use mathlib.Core.Path.{◌≡◌}
use Rattle.output.specs.Output.{output_at, put}
use Rattle.quarter_text.specs.Table.{spaces}
use Rattle.quarter_text.proofs.put_spaces.Given as goal

abbrev pub invariant-loop-i : goal.invariant-loop-i
invariant-loop-i l = output_at l.out l.end ≡ put (output_at l.initial.out l.at) (spaces l._i)
