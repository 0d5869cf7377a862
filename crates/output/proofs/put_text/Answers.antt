-- `output::put_text` meets its contract: after each turn what is left of the text, put behind what was, is the whole.
use native.Mathlib.Omega.{arith}
use Prim.Native.Nat.{◌≤◌}
use lib.ListN.{length}
use Rattle.output.proofs.Puts.{text-next, text-end}
use Rattle.output.proofs.put_text.Goals as goal

pub loop-b-preserved : goal.loop-b-preserved
loop-b-preserved c = (text-next _ _ _ c.loop-b-test.true c.put_byte-end.ensures c.loop-b.invariant.0, omega arith)

pub returns : goal.returns
returns c =
    let past : length c.args.text.now ≤ c.loop-b.b-index = omega arith in
    text-end _ _ _ past c.loop-b.invariant.0
