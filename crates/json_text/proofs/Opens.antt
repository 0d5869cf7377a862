-- One name opens every definition of this crate and of those below it, for tests that compute: a definition that is
-- added here asks nothing of those above.
use Rattle.std.proofs.Common.{Bool, true}
use Rattle.json_chars.proofs.Opens.{open-chars}
use Rattle.json_text.specs.Text.{text_from, text_read_at, barred, white_space, blanks, spaces_of, in_runs, is_white, wrong_space, outside_id, rule_broken, none, wrong_here, first_wrong, closes_at, wrong_from, wrong_at, text_read}

unfoldable pub open-text : Bool
unfolding open-chars text_from text_read_at barred white_space blanks spaces_of in_runs is_white wrong_space outside_id rule_broken none wrong_here first_wrong closes_at wrong_from wrong_at text_read
open-text = true
