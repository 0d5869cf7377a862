-- `table_again::read_again` meets its contract: read with its own rows over cells that were cleared.
-- Assumes nothing.
use Rattle.table_again.proofs.Laws.{read_again}
use Rattle.table_again.proofs.read_again.Goals as goal

pub returns : goal.returns
returns c = let whole = read_again _ _ _ c.clear.ensures c.field_rows-fields.ensures c.field_names-names.ensures c.first_field.ensures c.rows_after-own.ensures c.field_count-count.ensures c.is_omitted-present.ensures c.part_at-s.ensures (c.read_file.ensures.value, c.read_file.ensures.cells_after) in record { value = whole.0; cells_after = whole.1 }
