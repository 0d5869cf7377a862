-- `mark_numbers::count_faults` meets its contract: one mark more holds, or is one fault more.
use mathlib.Core.Path.{refl, ◌∙◌}
use native.Mathlib.Omega.{arith}
use Rattle.mark_numbers.specs.Marks.{faults_up_to}
use Rattle.mark_numbers.proofs.Laws.{holds-next, fault-next}
use Rattle.mark_numbers.proofs.count_faults.Goals as goal
use Rattle.mark_numbers.proofs.count_faults.Goals.{then-kind-ne0, else-kind-ne0}

pub loop-kind-init : goal.loop-kind-init
unfolding faults_up_to
loop-kind-init c = (refl, omega arith)

pub loop-kind-preserved : goal.loop-kind-preserved
loop-kind-preserved c =
    elim c.if-kind-ne0.branch [ then-kind-ne0 w ↦ (w.found-is ∙ fault-next _ _ _ c.loop-kind.invariant.0 w.if-kind-ne0.true, omega arith) | else-kind-ne0 w ↦ (w.found-is ∙ holds-next _ _ _ c.loop-kind.invariant.0 w.if-kind-ne0.false, omega arith) ]
