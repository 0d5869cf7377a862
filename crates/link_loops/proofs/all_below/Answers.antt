-- `link_loops::all_below` meets its contract: what is left decides as the whole does.
-- Assumes nothing.
use Prim.Native.Nat.{◌≤◌}
use mathlib.Core.Path.{sym, ◌∙◌}
use native.Mathlib.Omega.{arith}
use lib.ListN.{length}
use Rattle.link_loops.proofs.Shown.{below_on, below-not, below_end}
use Rattle.link_loops.proofs.all_below.Goals as goal

pub returns-then-c-n : goal.returns-then-c-n
returns-then-c-n c = sym (c.loop-c.invariant ∙ below-not _ _ _ c.loop-c-test.true c.if-c-n.true)

pub loop-c-preserved : goal.loop-c-preserved
loop-c-preserved c = c.loop-c.invariant ∙ below_on _ _ _ c.loop-c-test.true c.if-c-n.false

pub returns : goal.returns
returns c =
    let past : length c.args.from.now ≤ c.loop-c.c-index = omega arith in
    sym (c.loop-c.invariant ∙ below_end _ _ _ past)
