-- `wording::put_filled` meets its contract: after each turn what is left of the sentence, put behind what was, is the whole.
use mathlib.Core.Path.{refl}
use native.Mathlib.Omega.{arith}
use Prim.Native.Nat.{◌≤◌}
use lib.ListN.{length}
use Rattle.wording.proofs.Filling.{filled_next, filled-end}
use Rattle.wording.proofs.put_filled.Goals as goal

pub loop-sign-init : goal.loop-sign-init
loop-sign-init c = (refl, refl)

pub loop-sign-preserved : goal.loop-sign-preserved
loop-sign-preserved c = (filled_next _ _ _ _ _ _ c.loop-sign-test.true c.put_sign-end.ensures c.loop-sign.invariant.0, omega arith)

pub returns : goal.returns
returns c =
    let past : length c.args.sentence.now ≤ c.loop-sign.sign-index = omega arith in
    filled-end _ _ _ _ _ _ past c.loop-sign.invariant.0
