-- `gate_names::put_schedule_field` meets its contract: document 002's rows give its fields.
use Rattle.gate_names.proofs.Laws.{schedule-put}
use Rattle.gate_names.proofs.put_schedule_field.Goals as goal

pub returns : goal.returns
returns c = schedule-put _ _ _ c.field_rows-rows.ensures c.field_names-names.ensures c.put_name_in_rows.ensures
