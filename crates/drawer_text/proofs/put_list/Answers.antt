-- `drawer_text::put_list` meets its contract.
-- Assumes nothing.
use Rattle.json_bytes.specs.Ascii.{codes}
use Rattle.drawer_text.proofs.Puts.{list_put, list-refused}
use Rattle.drawer_text.proofs.put_list.Goals as goal

pub returns-then-refusal-eq0 : goal.returns-then-refusal-eq0
returns-then-refusal-eq0 c = list_put _ _ c.drawer_fault-refusal.ensures c.if-refusal-eq0.true c.put_drawer.ensures

pub returns : goal.returns
unfolding codes
returns c = list-refused _ _ c.drawer_fault-refusal.ensures c.if-refusal-eq0.false c.put_counted.ensures
