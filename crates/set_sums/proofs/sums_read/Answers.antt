-- `set_sums::sums_read` meets its contract: the parts of the list are lent as they stand.
-- Assumes nothing.
use mathlib.Core.Path.{sym, ◌∙◌}
use native.Mathlib.Omega.{arith}
use lib.Seq.{length-take-le}
use Rattle.set_sums.proofs.sums_read.Goals as goal

pub slice_bounds-u_cells-end : goal.slice_bounds-u_cells-end
slice_bounds-u_cells-end c = sym (length-take-le 32768 c.args.work.now (omega arith))

pub returns : goal.returns
returns c = c.sums_in.ensures ∙ rw (c.part_at-s.ensures, c.part_at-u.ensures)
