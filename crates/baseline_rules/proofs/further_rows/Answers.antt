-- `baseline_rules::further_rows` meets its contract: the code's numbers are the rows of the document's rules, computed.
use mathlib.Core.Path.{refl}
use Rattle.baseline_rules.proofs.Opens.{open-baseline-rows}
use Rattle.baseline_rules.proofs.further_rows.Goals as goal

pub returns : goal.returns
unfolding open-baseline-rows
returns c = refl
