-- `output::put_byte` meets its contract: it writes where its test finds room.
-- Assumes nothing.
use Rattle.output.proofs.Puts.{byte_put, byte-none}
use Rattle.output.proofs.put_byte.Goals as goal

pub returns-then-at-out : goal.returns-then-at-out
returns-then-at-out c = byte_put _ _ _ c.if-at-out.true

pub returns : goal.returns
returns c = byte-none _ _ _ c.if-at-out.false
