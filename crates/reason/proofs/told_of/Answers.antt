-- `reason::told_of` meets its contract, by the mark's kind and whether it is a file's.
-- Assumes nothing.
use Rattle.reason.proofs.Found.{told-holds, told-own, told-unjudged, told-broken}
use Rattle.reason.proofs.told_of.Goals as goal

pub returns-then-found-eq0 : goal.returns-then-found-eq0
returns-then-found-eq0 c = told-holds _ _ _ _ _ _ _ c.mark_in-found.ensures c.if-found-eq0.true

pub returns-then-mark-n : goal.returns-then-mark-n
returns-then-mark-n c = told-own _ _ _ _ _ _ _ c.mark_in-found.ensures c.if-found-eq0.false c.if-mark-n.true

pub returns-then-found-eq2 : goal.returns-then-found-eq2
returns-then-found-eq2 c = told-unjudged _ _ _ _ _ _ _ c.mark_in-found.ensures c.if-found-eq0.false c.if-mark-n.false c.if-found-eq2.true c.unread_of.ensures

pub returns : goal.returns
returns c = told-broken _ _ _ _ _ _ _ c.mark_in-found.ensures c.if-found-eq0.false c.if-mark-n.false c.if-found-eq2.false c.shown_of-shown.ensures c.broken_by.ensures
