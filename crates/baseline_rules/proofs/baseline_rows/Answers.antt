-- `baseline_rules::baseline_rows` meets its contract: the rows of all rules are document 01's and, behind them, the further ones.
use mathlib.Core.Path.{◌≡◌, ◌∙◌}
use mathlib.Core.List.{List, ◌++◌}
use Prim.Native.Nat.{ℕ}
use Rattle.schedule_rules.specs.Rules.{rule_rows}
use Rattle.baseline_rules.specs.Rules.{further_rows, baseline_rows}
use Rattle.baseline_rules.proofs.Facts.{rows_join}
use Rattle.baseline_rules.proofs.baseline_rows.Goals as goal

joined : {first further rows : List ℕ} → first ≡ rule_rows → further ≡ further_rows → rows ≡ first ++ further → rows ≡ baseline_rows
joined f g e = e ∙ rw (f, g) rows_join

pub returns : goal.returns
returns c = joined c.rule_rows-first.ensures c.further_rows-further.ensures c.join.ensures
