-- One name opens every definition of this crate and of those below it, for tests that compute.
use Rattle.std.proofs.Common.{Bool, true}
use Rattle.key_order.proofs.Opens.{open-key-order}
use Rattle.entries.specs.Entries.{wrapped, entry_of, sum_alone, entries_of}

unfoldable pub open-entries : Bool
unfolding open-key-order wrapped entry_of sum_alone entries_of
open-entries = true
