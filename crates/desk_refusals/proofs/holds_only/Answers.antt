-- `desk_refusals::holds_only` meets its contract.
use mathlib.Core.Path.{◌≡◌, sym, ◌∙◌}
use native.Mathlib.Omega.{arith}
use Rattle.desk_refusals.proofs.Laws.{holds_not}
use Rattle.desk_refusals.proofs.holds_only.Goals as goal

pub returns-then-not-stands_well : goal.returns-then-not-stands_well
returns-then-not-stands_well c = holds_not _ _ 20 _ c.loop-k-test.true (sym c.stands_well.ensures ∙ c.if-not-stands_well.true)

pub returns : goal.returns
returns c = let e : c.loop-k.k ≡ 20 = omega arith in sym (rw e at c.loop-k.invariant)
