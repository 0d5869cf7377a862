-- `table_file::read_table` meets its contract: the tests that led to each answer decide the definition.
use Rattle.table_file.proofs.Laws.{both, table-single, table-array}
use Rattle.table_file.proofs.read_table.Goals as goal

pub returns-then-single : goal.returns-then-single
returns-then-single c = record { value = (both _ _ (table-single _ _ _ _ c.skip_spaces-at.ensures _ _ c.if-single.true c.read_single.ensures)).0; cells_after = (both _ _ (table-single _ _ _ _ c.skip_spaces-at.ensures _ _ c.if-single.true c.read_single.ensures)).1 }

pub returns : goal.returns
returns c = record { value = (both _ _ (table-array _ _ _ _ c.skip_spaces-at.ensures _ _ c.if-single.false c.read_array.ensures)).0; cells_after = (both _ _ (table-array _ _ _ _ c.skip_spaces-at.ensures _ _ c.if-single.false c.read_array.ensures)).1 }
