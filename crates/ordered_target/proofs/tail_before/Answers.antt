-- `ordered_target::tail_before` meets its contract: before the third place there are no such bytes.
use Rattle.std.proofs.Common.{le-ltb, lt-ltb}
use Rattle.ordered_target.proofs.tail_before.Goals as goal

pub returns-then-end-lt3 : goal.returns-then-end-lt3
returns-then-end-lt3 c = rw (lt-ltb _ _ c.if-end-lt3.true)

pub returns : goal.returns
returns c = rw (le-ltb _ _ c.if-end-lt3.false, ← c.byte_at.ensures, ← c.byte_at-2.ensures)
