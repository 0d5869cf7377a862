-- `wording::put_companion` meets its contract.
use Rattle.json_bytes.specs.Ascii.{codes}
use Rattle.wording.proofs.Filling.{none-put, companion-put}
use Rattle.wording.proofs.put_companion.Goals as goal

pub returns-then-companion-eq0 : goal.returns-then-companion-eq0
unfolding codes
returns-then-companion-eq0 c = none-put _ _ c.if-companion-eq0.true c.put_text.ensures

pub returns : goal.returns
unfolding codes
returns c = companion-put _ _ c.if-companion-eq0.false c.put_text-next.ensures c.put_number.ensures
