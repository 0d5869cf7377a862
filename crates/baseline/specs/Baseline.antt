-- The gate of the baseline profile as one value. Document 02, order 8: "A baseline profile adds marks" to document 01's gate, over
-- the same files. "Demands 1 to 3 then read 85 marks, acceptance needs all 85": what the gate's calls answer, takes any gate.
use Rattle.table_fields.specs.Flat.{value_places, value_texts}
use Rattle.gate_marks.specs.Gate.{Gate, gate_of}
use Rattle.schedule.specs.Schedule.{expected_files}
use Rattle.baseline_rules.specs.Rules.{baseline_rules}

unfoldable pub baseline : Gate
baseline = gate_of expected_files baseline_rules value_places value_texts
