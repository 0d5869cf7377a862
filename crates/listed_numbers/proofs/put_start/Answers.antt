-- `listed_numbers::put_start` meets its contract: after each turn one number more is written over the others.
use Prim.Native.Nat.{◌-◌}
use mathlib.Core.Path.{refl, ◌∙◌}
use native.Mathlib.Omega.{arith}
use lib.ListN.{length-set}
use lib.Seq.{paste-zero}
use Rattle.bundle_bytes.proofs.Laws.{written_none, written-whole}
use Rattle.listed_numbers.proofs.Handed.{put-more}
use Rattle.listed_numbers.proofs.put_start.Goals as goal

pub returns-then-list-numbers : goal.returns-then-list-numbers
returns-then-list-numbers c = written_none _ _ c.args.numbers.now (omega arith)

pub loop-i-init : goal.loop-i-init
loop-i-init c = (omega arith, refl, paste-zero _ 0 c.args.numbers.now)

pub loop-i-preserved : goal.loop-i-preserved
loop-i-preserved c = (
  omega arith,
  length-set c.loop-i.list _ _ ∙ c.loop-i.invariant.1,
  put-more _ _ _ (omega arith) c.loop-i-test.true c.loop-i.invariant.2,
)

pub shape_of-list : goal.shape_of-list
shape_of-list c = c.loop-i.invariant.1

pub returns : goal.returns
returns c = c.loop-i.invariant.2 ∙ written-whole _ _ c.args.numbers.now c.loop-i.i (omega arith) (omega arith)
