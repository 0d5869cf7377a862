-- One name opens every definition of this crate and of those below it, for tests that compute: a definition that is
-- added here asks nothing of those above.
use mathlib.Core.Bool.{Bool, true}
use Rattle.json_chars.proofs.Opens.{open-chars}
use Rattle.json_same.specs.Same.{cased_as, same_list, same_as, is_plain}
use Rattle.json_same.specs.Walk.{beginning, is_end, pair_of, run_from}

unfoldable pub open-same : Bool
unfolding open-chars cased_as same_list same_as beginning is_end is_plain pair_of run_from
open-same = true
