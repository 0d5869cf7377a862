-- One name opens every definition of this crate and of those below it, for tests that compute: a definition that is
-- added here asks nothing of those above.
use mathlib.Core.Bool.{Bool, true}
use Rattle.rule_cells.proofs.Opens.{open-cells}
use Rattle.rule_key.specs.Key.{same_integer, same_date, same_field, same_key, earliest, repeats, key_rule}

unfoldable pub open-keys : Bool
unfolding open-cells same_integer same_date same_field same_key earliest repeats key_rule
open-keys = true
