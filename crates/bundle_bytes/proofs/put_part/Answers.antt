-- `bundle_bytes::put_part` meets its contract: after each turn one byte more of the part is written over the others.
use mathlib.Core.Path.{refl, ◌∙◌}
use native.Mathlib.Omega.{arith}
use lib.ListN.{length-set}
use lib.Seq.{paste-zero}
use Rattle.bundle_bytes.proofs.Laws.{written_none, written-whole, pasted-more}
use Rattle.bundle_bytes.proofs.put_part.Goals as goal

pub loop-i-init : goal.loop-i-init
loop-i-init c = (refl, paste-zero _ c.args.at c.args.part.now)

pub loop-i-preserved : goal.loop-i-preserved
loop-i-preserved c = (
  length-set c.loop-i.out _ _ ∙ c.loop-i.invariant.0,
  pasted-more _ _ _ _ (omega arith) c.loop-i-test.true c.loop-i.invariant.1,
)
