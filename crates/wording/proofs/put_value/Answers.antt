-- `wording::put_value` meets its contract: no value, one that is cut, and a whole one.
use Rattle.json_bytes.specs.Ascii.{codes}
use Rattle.wording.proofs.Filling.{null-put, cut-put, whole-put}
use Rattle.wording.proofs.put_value.Goals as goal

pub returns-then-value-eq0 : goal.returns-then-value-eq0
unfolding codes
returns-then-value-eq0 c = null-put _ _ c.if-value-eq0.true c.put_text.ensures

pub returns-then-cut-value : goal.returns-then-cut-value
unfolding codes
returns-then-cut-value c = cut-put _ _ c.if-value-eq0.false c.cut_length-cut.ensures c.part.ensures c.put_text-next.ensures c.if-cut-value.true c.put_text-then-cut-value.ensures

pub returns : goal.returns
returns c = whole-put _ _ c.if-value-eq0.false c.cut_length-cut.ensures c.part.ensures c.put_text-next.ensures c.if-cut-value.false
