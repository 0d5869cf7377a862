-- `ordered_target::end_of` meets its contract: behind the first of no cells there are none.
use Rattle.std.proofs.Common.{sym}
use Rattle.ordered_target.proofs.Laws.{end-behind, no_end}
use Rattle.ordered_target.proofs.end_of.Goals as goal

pub returns-then-table-gt0 : goal.returns-then-table-gt0
returns-then-table-gt0 c = end-behind c.args.table.now.cells.now c.args.table.now.width c.args.r c.args.k _ c.start_of.ensures

pub returns : goal.returns
returns c = sym (no_end c.args.table.now.cells.now c.args.table.now.width c.args.r c.args.k c.if-table-gt0.false)
