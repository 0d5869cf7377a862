-- `table_file::read_hinted` meets its contract: where there are hints, the names were found to be apart, and the fields that must hold a value are put down.
use mathlib.Core.Path.{sym, ◌∙◌}
use native.Mathlib.Nat.{not-suc-le-zero}
use Rattle.table_record.proofs.Required.{required-all}
use Rattle.table_file.proofs.read_hinted.Goals as goal

pub read_elements-requires : goal.read_elements-requires
read_elements-requires c = record { from_inside = (λ _. c.requires); hinted_names_apart = (λ e. absurd (not-suc-le-zero e)); required_of_rows = required-all _ _ _ c.fill_required-n.ensures.required_after }

pub read_elements-requires-2 : goal.read_elements-requires-2
read_elements-requires-2 c = record { from_inside = (λ _. c.requires); hinted_names_apart = (λ e. sym c.names_apart.ensures ∙ c.if-not-names_apart.false); required_of_rows = required-all _ _ _ c.fill_required-n.ensures.required_after }
