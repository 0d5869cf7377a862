-- One name opens every definition of this crate and of those below it, for tests that compute: a definition that is
-- added here asks nothing of those above.
use mathlib.Core.Bool.{Bool, true}
use Rattle.json_bytes.proofs.Opens.{open-bytes}
use Rattle.text_place.specs.Place.{is_continuation, is_character, is_line_feed, count_where, backwards, up_to_feed, spot_behind, spot_at}

unfoldable pub open-place : Bool
unfolding open-bytes is_continuation is_character is_line_feed count_where backwards up_to_feed spot_behind spot_at
open-place = true
