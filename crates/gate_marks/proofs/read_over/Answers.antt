-- `gate_marks::read_over` meets its contract: the fields that its own rows give are the file's.
-- Assumes nothing.
use Rattle.gate_marks.proofs.Reading.{read-over}
use Rattle.gate_marks.proofs.read_over.Goals as goal

pub returns : goal.returns
returns c = let whole = read-over _ _ _ _ _ _ _ _ _ _ _ _ c.cell_at-form.ensures c.cell_at-required.ensures c.first_field.ensures c.rows_after-own.ensures c.field_count-count.ensures _ _ c.read_file.ensures.value c.read_file.ensures.cells_after in record { value = whole.0; cells_after = whole.1 }
