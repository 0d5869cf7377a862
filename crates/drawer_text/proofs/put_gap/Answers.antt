-- `drawer_text::put_gap` meets its contract.
-- Assumes nothing.
use Rattle.json_bytes.specs.Ascii.{codes}
use Rattle.drawer_text.proofs.Puts.{gap-none, gap-put}
use Rattle.drawer_text.proofs.put_gap.Goals as goal

pub returns-then-n-eq0 : goal.returns-then-n-eq0
returns-then-n-eq0 c = gap-none _ _ _ c.if-n-eq0.true

pub returns : goal.returns
unfolding codes
returns c = gap-put _ _ _ c.if-n-eq0.false c.put_text-place.ensures c.put_ended-last.ensures c.put_ended.ensures
