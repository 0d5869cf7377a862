-- `loop_text::put_explained` meets its contract: the cells are those of file 14.
-- Assumes nothing.
use native.Mathlib.Omega.{arith}
use Rattle.show_loop.proofs.Laws.{front-cells, front-again, work-long}
use Rattle.loop_text.proofs.Puts.{explained-put}
use Rattle.loop_text.proofs.put_explained.Goals as goal

pub slice_bounds-put_links-end : goal.slice_bounds-put_links-end
slice_bounds-put_links-end c = omega (arith, work-long c.args.bundle.now c.args.work.now (omega arith) _ _ c.read_again.ensures.value c.read_again.ensures.cells_after)

pub slice_bounds-put_links-end-2 : goal.slice_bounds-put_links-end-2
slice_bounds-put_links-end-2 c = front-again c.args.bundle.now c.args.work.now (omega arith) _ _ c.read_again.ensures.value c.read_again.ensures.cells_after

pub shape_of-work : goal.shape_of-work
shape_of-work c = work-long c.args.bundle.now c.args.work.now (omega arith) _ _ c.read_again.ensures.value c.read_again.ensures.cells_after

pub returns : goal.returns
returns c = explained-put _ _ _ c.part_at-s.ensures (front-cells c.args.bundle.now c.args.work.now (omega arith) _ _ c.read_again.ensures.value c.read_again.ensures.cells_after) c.put_links.ensures
