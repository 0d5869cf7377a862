-- `table_again::read_records` meets its contract: of what was read, the number of records.
-- Assumes nothing.
use mathlib.Core.Path.{ap}
use Rattle.table_file.specs.declared.FileRead.{FileRead}
use Rattle.table_again.proofs.read_records.Goals as goal

pub returns : goal.returns
returns c = record { value = ap (λ (x : FileRead). x.records) c.read_again.ensures.value; cells_after = c.read_again.ensures.cells_after }
