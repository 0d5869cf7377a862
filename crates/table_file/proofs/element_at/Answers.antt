-- `table_file::element_at` meets its contract: an object is read as a record, and anything else is judged.
use native.Mathlib.Omega.{arith}
use Rattle.table_file.proofs.Laws.{base-fits, element-other, element-many, element-wide, element-object}
use Rattle.table_file.proofs.element_at.Goals as goal

pub returns-then-byte_at-ne123 : goal.returns-then-byte_at-ne123
returns-then-byte_at-ne123 c = element-other _ _ _ _ _ _ _ _ c.byte_at.ensures c.if-byte_at-ne123.true _ c.not_object_at.ensures

pub returns-then-r-ge4096 : goal.returns-then-r-ge4096
returns-then-r-ge4096 c = element-many _ _ _ _ _ _ _ _ c.byte_at.ensures c.if-byte_at-ne123.false c.if-r-ge4096.true

pub returns-then-count-gt64 : goal.returns-then-count-gt64
returns-then-count-gt64 c = element-wide _ _ _ _ _ _ _ _ c.byte_at.ensures c.if-byte_at-ne123.false c.if-r-ge4096.false c.if-count-gt64.true

pub overflow_mul-r : goal.overflow_mul-r
overflow_mul-r c = omega (arith, base-fits c.args.r c.args.count c.if-r-ge4096.false c.if-count-gt64.false)

pub read_record-requires : goal.read_record-requires
read_record-requires c = record { hinted_names_apart = c.requires.hinted_names_apart; required_of_rows = c.requires.required_of_rows }

pub returns : goal.returns
returns c = element-object _ _ _ _ _ _ _ _ c.byte_at.ensures c.if-byte_at-ne123.false c.if-r-ge4096.false _ _ c.read_record.ensures.value c.read_record.ensures.cells_after
