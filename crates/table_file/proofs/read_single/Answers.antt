-- `table_file::read_single` meets its contract: the fields that must hold a value are put down, and nothing is guessed.
use mathlib.Core.Bool.{true≢false}
use native.Mathlib.Nat.{not-suc-le-zero}
use Rattle.table_record.proofs.Required.{required-all}
use Rattle.table_file.proofs.read_single.Goals as goal

pub read_elements-requires : goal.read_elements-requires
read_elements-requires c = record { from_inside = (λ e. absurd (true≢false e)); hinted_names_apart = (λ e. absurd (not-suc-le-zero e)); required_of_rows = required-all _ _ _ c.fill_required-n.ensures.required_after }
