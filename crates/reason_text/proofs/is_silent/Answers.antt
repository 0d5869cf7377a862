-- `reason_text::is_silent` meets its contract.
use Rattle.reason_text.proofs.Lines.{silent-holds, silent-grouped, silent-alone}
use Rattle.reason_text.proofs.is_silent.Goals as goal

pub returns-then-kind-eq0 : goal.returns-then-kind-eq0
returns-then-kind-eq0 c = silent-holds _ _ c.if-kind-eq0.true

pub returns-then-grouped : goal.returns-then-grouped
returns-then-grouped c = silent-grouped _ _ c.if-kind-eq0.false c.if-grouped.true

pub returns : goal.returns
returns c = silent-alone _ _ c.if-kind-eq0.false c.if-grouped.false
