-- `json_chars::unit_escape_at` meets its contract: a unit below 256 is no surrogate.
use Rattle.std.proofs.Common.{sym}
use Rattle.json_chars.proofs.Laws.{low-joined}
use Rattle.json_chars.proofs.unit_escape_at.Goals as goal

pub returns-in-Some : goal.returns-in-Some
returns-in-Some c = sym (low-joined _ _ _ c.in-Some.ensures.0 c.in-Some.ensures.1)
