-- `show_loop::show_loop_in` meets its contract: each way out of it is one of the definition.
-- Assumes nothing.
use mathlib.Core.Path.{sym, ◌∙◌}
use native.Mathlib.Omega.{arith}
use Rattle.show_loop.proofs.Laws.{short-work, layout-fault, unreadable, too_short, no-fault, read_right, front-again, work-long, few-records, links-shown, refused, nothing-shown, ring-shown}
use Rattle.show_loop.proofs.show_loop_in.Goals as goal

pub returns-then-work-lt40960 : goal.returns-then-work-lt40960
returns-then-work-lt40960 c = short-work _ _ _ c.if-work-lt40960.true

pub returns-then-fault-ne0 : goal.returns-then-fault-ne0
returns-then-fault-ne0 c = refused _ _ _ c.if-work-lt40960.false _ (layout-fault _ _ _ c.bundle_fault-fault.ensures c.if-fault-ne0.true) c.if-fault-ne0.true

pub returns-then-read-ne0 : goal.returns-then-read-ne0
returns-then-read-ne0 c = refused _ _ _ c.if-work-lt40960.false _ (unreadable _ _ (sym c.bundle_fault-fault.ensures ∙ c.if-fault-ne0.false) _ (read_right c.args.bundle.now c.args.work.now c.if-work-lt40960.false _ _ c.read_again-read.ensures.value c.read_again-read.ensures.cells_after) c.if-read-ne0.true) (λ e. omega arith)

pub returns-then-list-records : goal.returns-then-list-records
returns-then-list-records c = refused _ _ _ c.if-work-lt40960.false _ (too_short _ _ (sym c.bundle_fault-fault.ensures ∙ c.if-fault-ne0.false) _ (read_right c.args.bundle.now c.args.work.now c.if-work-lt40960.false _ _ c.read_again-read.ensures.value c.read_again-read.ensures.cells_after) c.if-read-ne0.false c.if-list-records.true) (λ e. omega arith)

pub returns-then-m-eq0 : goal.returns-then-m-eq0
returns-then-m-eq0 c = nothing-shown _ _ _ c.if-work-lt40960.false _ _ (no-fault _ _ (sym c.bundle_fault-fault.ensures ∙ c.if-fault-ne0.false) _ (read_right c.args.bundle.now c.args.work.now c.if-work-lt40960.false _ _ c.read_again-read.ensures.value c.read_again-read.ensures.cells_after) c.if-read-ne0.false c.if-list-records.false) (links-shown c.args.bundle.now c.args.work.now c.if-work-lt40960.false _ _ c.read_again-read.ensures.value c.read_again-read.ensures.cells_after _ c.part_at-s.ensures _ _ _ c.show_table-m.ensures) c.if-m-eq0.true

pub returns : goal.returns
returns c = ring-shown _ _ _ c.if-work-lt40960.false _ _ (no-fault _ _ (sym c.bundle_fault-fault.ensures ∙ c.if-fault-ne0.false) _ (read_right c.args.bundle.now c.args.work.now c.if-work-lt40960.false _ _ c.read_again-read.ensures.value c.read_again-read.ensures.cells_after) c.if-read-ne0.false c.if-list-records.false) (links-shown c.args.bundle.now c.args.work.now c.if-work-lt40960.false _ _ c.read_again-read.ensures.value c.read_again-read.ensures.cells_after _ c.part_at-s.ensures _ _ _ c.show_table-m.ensures) c.if-m-eq0.false

pub shape_of-work-then-read-ne0 : goal.shape_of-work-then-read-ne0
shape_of-work-then-read-ne0 c = work-long c.args.bundle.now c.args.work.now c.if-work-lt40960.false _ _ c.read_again-read.ensures.value c.read_again-read.ensures.cells_after

pub shape_of-work-then-list-records : goal.shape_of-work-then-list-records
shape_of-work-then-list-records c = work-long c.args.bundle.now c.args.work.now c.if-work-lt40960.false _ _ c.read_again-read.ensures.value c.read_again-read.ensures.cells_after

pub slice_bounds-cells-end : goal.slice_bounds-cells-end
slice_bounds-cells-end c = omega (arith, work-long c.args.bundle.now c.args.work.now c.if-work-lt40960.false _ _ c.read_again-read.ensures.value c.read_again-read.ensures.cells_after)

pub slice_bounds-cells-end-2 : goal.slice_bounds-cells-end-2
slice_bounds-cells-end-2 c = front-again c.args.bundle.now c.args.work.now c.if-work-lt40960.false _ _ c.read_again-read.ensures.value c.read_again-read.ensures.cells_after

pub show_table-m-requires : goal.show_table-m-requires
show_table-m-requires c = (few-records c.args.bundle.now c.args.work.now c.if-work-lt40960.false _ _ c.read_again-read.ensures.value c.read_again-read.ensures.cells_after, c.if-list-records.false)

pub shape_of-work-then-m-eq0 : goal.shape_of-work-then-m-eq0
shape_of-work-then-m-eq0 c = work-long c.args.bundle.now c.args.work.now c.if-work-lt40960.false _ _ c.read_again-read.ensures.value c.read_again-read.ensures.cells_after

pub shape_of-work : goal.shape_of-work
shape_of-work c = work-long c.args.bundle.now c.args.work.now c.if-work-lt40960.false _ _ c.read_again-read.ensures.value c.read_again-read.ensures.cells_after
