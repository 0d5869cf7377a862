-- `gate_lists::lent_fault` meets its contract: each test decides one part of the definition.
use Rattle.std.proofs.Common.{ap, not}
use Rattle.mark_numbers.proofs.Laws.{lists-wrong, lists-right}
use Rattle.gate_lists.proofs.Answers.{files-few, wrong-lists, short-work, long-work}
use Rattle.gate_lists.proofs.lent_fault.Goals as goal

pub returns-then-not-have_length : goal.returns-then-not-have_length
returns-then-not-have_length c = wrong-lists _ _ _ (lists-wrong _ _ (rw c.mark_count.ensures at c.have_length.ensures) (ap not c.if-not-have_length.true))

pub returns-then-lent-workspace : goal.returns-then-lent-workspace
returns-then-lent-workspace c = short-work _ _ _ (lists-right _ _ (rw c.mark_count.ensures at c.have_length.ensures) (ap not c.if-not-have_length.false)) (rw (← c.workspace.ensures) c.if-lent-workspace.true)

pub returns : goal.returns
returns c = long-work _ _ _ (lists-right _ _ (rw c.mark_count.ensures at c.have_length.ensures) (ap not c.if-not-have_length.false)) (files-few _) (rw (← c.workspace.ensures) c.if-lent-workspace.false)
