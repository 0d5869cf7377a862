-- `gate_names::put_name_in_rows` meets its contract: the part that it puts is the name in the field's row.
use Rattle.gate_names.proofs.Laws.{name-none, name-put}
use Rattle.gate_names.proofs.put_name_in_rows.Goals as goal

pub returns-then-field_count-field : goal.returns-then-field_count-field
returns-then-field_count-field c = name-none _ _ _ _ _ c.field_count.ensures c.if-field_count-field.true

pub returns : goal.returns
returns c = name-put _ _ _ _ _ c.field_count.ensures c.if-field_count-field.false c.first_field.ensures c.rows_after-own.ensures c.name_start.ensures c.name_end.ensures c.part.ensures c.put_text.ensures
