-- `table_file::read_file` meets its contract: the tests that led to each answer decide the definition.
use Rattle.table_file.proofs.Laws.{both, file-omitted, file-array, file-object, file-text}
use Rattle.table_file.proofs.read_file.Goals as goal

pub returns-then-not-present : goal.returns-then-not-present
returns-then-not-present c = record { value = (both _ _ (file-omitted _ _ _ _ _ _ _ c.if-not-present.true _ c.omitted_file.ensures)).0; cells_after = (both _ _ (file-omitted _ _ _ _ _ _ _ c.if-not-present.true _ c.omitted_file.ensures)).1 }

pub returns-then-form-eq-RECORDS : goal.returns-then-form-eq-RECORDS
returns-then-form-eq-RECORDS c = record { value = (both _ _ (file-array _ _ _ _ _ _ _ c.if-not-present.false c.if-form-eq-RECORDS.true _ _ c.read_table.ensures.value c.read_table.ensures.cells_after)).0; cells_after = (both _ _ (file-array _ _ _ _ _ _ _ c.if-not-present.false c.if-form-eq-RECORDS.true _ _ c.read_table.ensures.value c.read_table.ensures.cells_after)).1 }

pub returns-then-form-eq-SINGLE : goal.returns-then-form-eq-SINGLE
returns-then-form-eq-SINGLE c = record { value = (both _ _ (file-object _ _ _ _ _ _ _ c.if-not-present.false c.if-form-eq-RECORDS.false c.if-form-eq-SINGLE.true _ _ c.read_table-then-form-eq-SINGLE.ensures.value c.read_table-then-form-eq-SINGLE.ensures.cells_after)).0; cells_after = (both _ _ (file-object _ _ _ _ _ _ _ c.if-not-present.false c.if-form-eq-RECORDS.false c.if-form-eq-SINGLE.true _ _ c.read_table-then-form-eq-SINGLE.ensures.value c.read_table-then-form-eq-SINGLE.ensures.cells_after)).1 }

pub returns : goal.returns
returns c = record { value = (both _ _ (file-text _ _ _ _ _ _ _ c.if-not-present.false c.if-form-eq-RECORDS.false c.if-form-eq-SINGLE.false _ c.fixed_file.ensures)).0; cells_after = (both _ _ (file-text _ _ _ _ _ _ _ c.if-not-present.false c.if-form-eq-RECORDS.false c.if-form-eq-SINGLE.false _ c.fixed_file.ensures)).1 }
