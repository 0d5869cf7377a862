-- `table_name::guess_end` meets its contract: a field that has a name has a row, and that part of the names is its name.
use native.Mathlib.Omega.{arith}
use mathlib.Core.Path.{refl, sym}
use Rattle.parts.proofs.Laws.{part-is}
use Rattle.table_rows.specs.Rows.{cell_at}
use Rattle.table_name.proofs.Guess.{placed, guess-told}
use Rattle.table_name.proofs.Words.{place-fits}
use Rattle.table_name.proofs.guess_end.Goals as goal

pub overflow_mul-from : goal.overflow_mul-from
overflow_mul-from c = omega (arith, (placed _ _ _ c.requires).row)

pub overflow_add-from : goal.overflow_add-from
overflow_add-from c = omega (arith, (placed _ _ _ c.requires).row)

pub offset_bounds-rows-k : goal.offset_bounds-rows-k
offset_bounds-rows-k c = omega (arith, (placed _ _ _ c.requires).row)

pub bounds-rows-k : goal.bounds-rows-k
bounds-rows-k c = omega (arith, (placed _ _ _ c.requires).row)

pub overflow_cast-from : goal.overflow_cast-from
overflow_cast-from c = place-fits (c.shared_slice_known-4-1.given _)

pub overflow_mul-to : goal.overflow_mul-to
overflow_mul-to c = omega (arith, (placed _ _ _ c.requires).row)

pub overflow_add-to : goal.overflow_add-to
overflow_add-to c = omega (arith, (placed _ _ _ c.requires).row)

pub offset_bounds-rows-k-2 : goal.offset_bounds-rows-k-2
offset_bounds-rows-k-2 c = omega (arith, (placed _ _ _ c.requires).row)

pub bounds-rows-k-2 : goal.bounds-rows-k-2
bounds-rows-k-2 c = (placed _ _ _ c.requires).row

pub overflow_cast-to : goal.overflow_cast-to
overflow_cast-to c = place-fits (c.shared_slice_known-5-1.given _)

pub slice_bounds-quoted_end-count : goal.slice_bounds-quoted_end-count
slice_bounds-quoted_end-count c = (placed _ _ _ c.requires).forward

pub slice_bounds-quoted_end-start : goal.slice_bounds-quoted_end-start
slice_bounds-quoted_end-start c = omega (arith, (placed _ _ _ c.requires).forward, (placed _ _ _ c.requires).among)

pub slice_bounds-quoted_end-end : goal.slice_bounds-quoted_end-end
slice_bounds-quoted_end-end c = omega (arith, (placed _ _ _ c.requires).forward, (placed _ _ _ c.requires).among)

pub returns : goal.returns
unfolding cell_at
returns c = guess-told _ _ 0 _ _ _ _ refl refl (sym (part-is _ _ _ (placed _ _ _ c.requires).forward (placed _ _ _ c.requires).among)) _ _ _ c.quoted_end.ensures
