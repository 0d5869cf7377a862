-- `ordered_target::Asked::find_record` meets its contract: a record whose target was seen holds, asked for it or not, one that is not asked holds too,
-- and a lookup decides. Slots are asked only where no order has to decide.
use Rattle.std.proofs.Common.{sym, ◌∙◌, true≢false}
use Rattle.ordered_target.proofs.Laws.{ungiven-holds, unasked-holds, target-holds, asked-breaks, looked-up, either}
use Rattle.ordered_target.proofs.Asked.find_record.Goals as goal

pub returns-then-not-is_given : goal.returns-then-not-is_given
returns-then-not-is_given c = ungiven-holds _ _ _ _ _ _ _ _ (sym c.is_given.ensures ∙ c.if-not-is_given.true)

pub returns-in-Some : goal.returns-in-Some
returns-in-Some c = target-holds _ _ _ _ _ _ _ _ _ c.start_of-at.ensures c.in-Some.ensures

pub returns-then-not-holds_when : goal.returns-then-not-holds_when
returns-then-not-holds_when c = unasked-holds _ _ _ _ _ _ _ _ (sym c.holds_when.ensures ∙ c.if-not-holds_when.true)

pub returns-then-slots-gt0 : goal.returns-then-slots-gt0
returns-then-slots-gt0 c = either c.guess_slot.result c.guess_slot.ensures (λ u o. absurd (true≢false (sym o ∙ c.if-not-ordered.true))) (λ x. target-holds _ _ _ _ _ _ _ _ _ c.start_of-at.ensures)

pub returns-in-Some-guess_next : goal.returns-in-Some-guess_next
returns-in-Some-guess_next c = target-holds _ _ _ _ _ _ _ _ _ c.start_of-at.ensures c.in-Some-guess_next.ensures

pub returns-then-ordered : goal.returns-then-ordered
returns-then-ordered c =
    let lists = c.requires c.if-ordered.true in
    let asked = asked-breaks _ _ _ _ _ _ _ _ _ c.start_of-at.ensures (sym c.is_given.ensures ∙ c.if-not-is_given.false) (sym c.holds_when.ensures ∙ c.if-not-holds_when.false) in
    either c.find.result c.find.ensures (λ e o. sym (looked-up _ _ _ _ _ _ _ _ _ lists.0 lists.1 (sym (rw c.one_text.ensures at e)) ∙ asked)) (λ x e. sym (looked-up _ _ _ _ _ _ _ _ _ lists.0 lists.1 (sym (rw c.one_text.ensures at e.0)) ∙ asked))

pub returns : goal.returns
returns c = either c.guess_around.result c.guess_around.ensures (λ u o. absurd (true≢false (sym o ∙ c.if-ordered.false))) (λ x. target-holds _ _ _ _ _ _ _ _ _ c.start_of-at.ensures)
