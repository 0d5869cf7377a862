-- `reason_text::find_keepers` meets its contract: after each turn the keepers of the marks below m stand in the list.
use Prim.Native.Nat.{◌-◌}
use mathlib.Core.Path.{refl, ◌∙◌}
use native.Mathlib.Omega.{arith}
use lib.ListN.{length-set}
use Rattle.mark_numbers.specs.Marks.{marks_in}
use Rattle.gate_lists.specs.Which.{gate_called}
use Rattle.reason_text.specs.Text.{keeper_at}
use Rattle.reason_text.proofs.Keepers.{keeper-is, stored, all-stored}
use Rattle.reason_text.proofs.find_keepers.Goals as goal

pub loop-m-init : goal.loop-m-init
loop-m-init c = ((λ j l. absurd (omega arith)), refl, refl, omega arith)

pub loop-m-preserved : goal.loop-m-preserved
loop-m-preserved c = (stored (keeper_at (gate_called c.args.which) c.args.bundle.now (marks_in c.args.kinds.now c.args.places.now c.args.companions.now)) c.loop-m.keepers c.loop-m.m _ c.loop-m.invariant.0 (omega arith) (keeper-is _ _ _ _ c.mark_in-mark.ensures c.keeper_at.ensures), omega arith, length-set c.loop-m.keepers c.loop-m.m _ ∙ c.loop-m.invariant.2, omega arith)

pub returns : goal.returns
returns c = all-stored _ _ _ _ c.loop-m.invariant.0 c.loop-m-test.false c.loop-m.invariant.2
