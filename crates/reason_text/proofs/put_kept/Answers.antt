-- `reason_text::put_kept` meets its contract.
use Rattle.reason_text.proofs.Keepers.{kept-none, kept_put}
use Rattle.reason_text.proofs.put_kept.Goals as goal

pub returns-then-n-eq0 : goal.returns-then-n-eq0
returns-then-n-eq0 c = kept-none _ _ _ _ c.if-n-eq0.true

pub returns : goal.returns
returns c = kept_put _ _ _ _ c.if-n-eq0.false c.kept_sentence.ensures c.file_slots.ensures c.put_sentence-feed.ensures c.put_byte.ensures
