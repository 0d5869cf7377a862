-- For the code's sake alone: the gate over document 01's files that lent rows of rules describe.
use Rattle.std.specs.Prelude.{ℕ, List}
use Rattle.table_fields.specs.Fields.{file_type}
use Rattle.table_fields.specs.Flat.{field_rows, field_names, value_places, value_texts}
use Rattle.gate_marks.specs.Gate.{Gate, gate_from}
use Rattle.schedule.specs.Schedule.{file_forms}

unfoldable pub gate_by : List ℕ → Gate
gate_by rows = gate_from file_forms field_rows field_names file_type rows value_places value_texts
