-- `wording::contract_rule` meets its contract.
use borrow.Author.Tests.{lt-ltb, le-ltb}
use Rattle.wording.proofs.contract_rule.Goals as goal

pub returns-then-mark-lt19 : goal.returns-then-mark-lt19
returns-then-mark-lt19 c = rw (lt-ltb _ 19 c.if-mark-lt19.true)

pub returns : goal.returns
returns c = rw (le-ltb _ 19 c.if-mark-lt19.false)
