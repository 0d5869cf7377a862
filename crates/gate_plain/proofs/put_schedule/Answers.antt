-- `gate_plain::put_schedule` meets its contract: the tables describe document 01's gate.
use Prim.Native.Nat.{◌-◌}
use mathlib.Core.Path.{ap, ◌∙◌}
use Rattle.bundle_layout.specs.Bundle.{file_at}
use Rattle.gate_marks.specs.Marks.{full_marks}
use Rattle.schedule.proofs.Laws.{described, by-schedule}
use Rattle.gate_plain.proofs.Laws.{lists_of}
use Rattle.gate_plain.proofs.put_schedule.Goals as goal

pub put_plain-requires : goal.put_plain-requires
put_plain-requires c = (
  c.requires.0,
  c.requires.1,
  lists_of _ _ _ _ _ _ _ _ (described _ c.file_forms-forms.ensures c.field_rows-fields.ensures c.field_names-names.ensures c.file_type-fixed.ensures c.value_places-values.ensures c.value_texts-texts.ensures ∙ by-schedule c.rule_rows-rules.ensures) c.requires.2,
)

pub returns : goal.returns
returns c = c.put_plain.ensures ∙ ap (λ g. full_marks g (file_at c.args.bundle.now)) (described _ c.file_forms-forms.ensures c.field_rows-fields.ensures c.field_names-names.ensures c.file_type-fixed.ensures c.value_places-values.ensures c.value_texts-texts.ensures ∙ by-schedule c.rule_rows-rules.ensures)
