-- `table_name::same_eights` meets its contract: the eights passed are equal, and the last eight decide it.
use mathlib.Core.Path.{sym, ◌∙◌}
use native.Mathlib.Omega.{arith}
use native.Mathlib.Nat.{not-suc-le-zero}
use Rattle.table_name.proofs.Eights.{alike-more, eights-differ, eights-told}
use Rattle.table_name.proofs.same_eights.Goals as goal

pub loop-i-init : goal.loop-i-init
loop-i-init c = λ k l. absurd (not-suc-le-zero l)

pub returns-then-eight_at : goal.returns-then-eight_at
returns-then-eight_at c = sym (eights-differ _ _ _ (λ e. c.if-eight_at.true (c.eight_at.ensures ∙ e ∙ sym c.eight_at-in-loop-i.ensures)))

pub loop-i-preserved : goal.loop-i-preserved
loop-i-preserved c = alike-more _ _ c.shared_slice_known-1.given c.shared_slice_known-2-1.given c.requires.1 _ (omega arith) (sym c.eight_at.ensures ∙ c.if-eight_at.false ∙ c.eight_at-in-loop-i.ensures) _ (omega arith) c.loop-i.invariant

pub returns : goal.returns
returns c = eights-told _ _ c.shared_slice_known-1.given c.shared_slice_known-2-1.given c.requires.1 _ (omega arith) _ (omega arith) c.loop-i-test.false c.loop-i.invariant c.eight_at-2.ensures c.eight_at-3.ensures
