-- `reason_text::keeper_at` meets its contract.
use Rattle.reason_text.proofs.Keepers.{keeper-asked, keeper-none}
use Rattle.reason_text.proofs.keeper_at.Goals as goal

pub returns-then-kind-eq2 : goal.returns-then-kind-eq2
returns-then-kind-eq2 c = keeper-asked _ _ _ c.file_count-none.ensures.0 c.if-kind-eq2.true c.reason_of.ensures c.keeper_of.ensures

pub returns : goal.returns
returns c = keeper-none _ _ _ c.file_count-none.ensures.0 c.if-kind-eq2.false
