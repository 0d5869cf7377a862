-- One name opens every definition of this crate and of those below it, for tests that compute: a definition that is
-- added here asks nothing of those above.
use mathlib.Core.Bool.{Bool, true}
use Rattle.sorted_numbers.proofs.Opens.{open-sorted}
use Rattle.json_bytes.proofs.Opens.{open-bytes}
use Rattle.number_search.specs.Search.{front_of, middle, search_from, searched}

unfoldable pub open-search : Bool
unfolding open-sorted open-bytes front_of middle search_from searched
open-search = true
