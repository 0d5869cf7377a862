-- `json_bytes::byte_at` meets its contract: past the end `get_or` gives its default.
use mathlib.Core.Path.{sym}
use lib.ListN.{get_or-eq_default}
use Rattle.json_bytes.proofs.byte_at.Goals as goal

pub returns-else-i-s : goal.returns-else-i-s
returns-else-i-s c = sym (get_or-eq_default c.args.s.now 0 c.if-i-s.false)
