-- `found_marks::width_of` meets its contract: the rows are few enough that twice their number fits.
-- Assumes nothing.
use native.Mathlib.Omega.{arith}
use Rattle.found_marks.proofs.Laws.{count-within}
use Rattle.found_marks.proofs.width_of.Goals as goal

pub overflow_mul-result : goal.overflow_mul-result
overflow_mul-result c = omega (arith, count-within c.args.forms.now c.args.fields.now c.args.k, c.count_of.ensures)
