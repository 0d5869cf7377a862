-- `report::put_line` meets its contract: a mark that holds has no line.
use Rattle.report.proofs.Puts.{line-none}
use Rattle.report.proofs.put_line.Goals as goal

pub returns-then-kind-eq0 : goal.returns-then-kind-eq0
returns-then-kind-eq0 c = line-none _ _ _ c.if-kind-eq0.true
