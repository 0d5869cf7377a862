-- `wording::kind_among` meets its contract.
use borrow.Author.Tests.{lt-ltb, le-ltb}
use Rattle.wording.specs.Sentences.{kind_among}
use Rattle.wording.proofs.kind_among.Goals as goal

pub returns-then-kind-lt30 : goal.returns-then-kind-lt30
unfolding kind_among
returns-then-kind-lt30 c = rw (lt-ltb _ 30 c.if-kind-lt30.true)

pub returns : goal.returns
unfolding kind_among
returns c = rw (le-ltb _ 30 c.if-kind-lt30.false)
