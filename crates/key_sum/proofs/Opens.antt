-- One name opens every definition of this crate and of those below it, for tests that compute: a definition that is
-- added here asks nothing of those above.
use Rattle.std.proofs.Common.{Bool, true}
use Rattle.json_same.proofs.Opens.{open-same}
use Rattle.key_sum.specs.Sum.{sum_with, sum_on, sum_of, key_sum}

unfoldable pub open-sum : Bool
unfolding open-same sum_with sum_on sum_of key_sum
open-sum = true
