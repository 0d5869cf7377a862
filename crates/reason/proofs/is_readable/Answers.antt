-- `reason::is_readable` meets its contract, for a file of the set and for any other.
-- Assumes nothing.
use Rattle.reason.proofs.Found.{no-file, file-kind}
use Rattle.reason.proofs.is_readable.Goals as goal

pub returns-then-n-k : goal.returns-then-n-k
returns-then-n-k c = no-file _ c.args.kinds.now _ c.if-n-k.true

pub returns : goal.returns
returns c = file-kind _ c.args.kinds.now _ c.if-n-k.false c.kind_at.ensures
