-- `drawer_c::knotsaddle_drawer_take` meets its contract: with a refusal it leaves the length as it is.
use mathlib.Core.Path.{ap}
use Rattle.bundle.specs.declared.Made.{Made}
use Rattle.drawer_c.proofs.Laws.{put-down, as_it_was}
use Rattle.drawer_c.proofs.knotsaddle_drawer_take.Goals as goal

pub returns-then-taken-eq0 : goal.returns-then-taken-eq0
returns-then-taken-eq0 c = record { value = ap (λ (x : Made). x.refusal) c.take_bundle-taken.ensures.value; out_after = c.take_bundle-taken.ensures.out_after; size_after = put-down _ _ _ c.if-taken-eq0.true (ap (λ (x : Made). x.length) c.take_bundle-taken.ensures.value) }

pub returns-else-taken-eq0 : goal.returns-else-taken-eq0
returns-else-taken-eq0 c = record { value = ap (λ (x : Made). x.refusal) c.take_bundle-taken.ensures.value; out_after = c.take_bundle-taken.ensures.out_after; size_after = as_it_was _ _ _ c.if-taken-eq0.false }
