-- `key_sum::key_sum` meets its contract: what is left, summed from here on, gives the sum of the whole.
-- Assumes nothing.
use Rattle.std.proofs.Common.{◌≡◌, ◌+◌, sym, ◌∙◌, arith}
use Rattle.json_chars.specs.Step.{step_at}
use Rattle.json_chars.specs.declared.Step.TheVariants.{Char}
use Rattle.json_same.proofs.Walk.{goes_on, plain_step, end-by-tag}
use Rattle.key_sum.proofs.Laws.{sum-starts, sum-ends, sum_more}
use Rattle.key_sum.proofs.key_sum.Goals as goal
use Rattle.key_sum.proofs.key_sum.Goals.{Then-is_plain}

pub loop-sum-init : goal.loop-sum-init
loop-sum-init c = sum-starts _ _ _ c.beginning_of-i.ensures

-- a byte that stands for itself is the character there
plain : (c : Then-is_plain) → step_at c.args.s.now c.loop-sum.i ≡ Char c.byte_at-b.result (c.loop-sum.i + 1)
plain c = plain_step _ _ _ c.byte_at-b.ensures (sym c.is_plain.ensures ∙ c.if-is_plain.true)

pub overflow_add-i : goal.overflow_add-i
overflow_add-i c = omega (arith, goes_on _ _ _ c.loop-sum.invariant.left _ _ (plain (goal.at.overflow_add-i c).Then-is_plain))

pub loop-sum-smaller-then-is_plain : goal.loop-sum-smaller-then-is_plain
loop-sum-smaller-then-is_plain c = omega (arith, goes_on _ _ _ c.loop-sum.invariant.left _ _ (plain (goal.at.loop-sum-smaller-then-is_plain c).Then-is_plain))

pub loop-sum-preserved-then-is_plain : goal.loop-sum-preserved-then-is_plain
loop-sum-preserved-then-is_plain c = sum_more _ _ _ _ c.loop-sum.invariant _ _ _ _ (plain (goal.at.loop-sum-preserved-then-is_plain c).Then-is_plain) c.folded.ensures c.sum_with-sum.ensures

pub returns-in_default : goal.returns-in_default
returns-in_default c = sum-ends _ _ _ _ c.loop-sum.invariant _ c.step_at.ensures (end-by-tag _ c.in_default.not-Char)

pub loop-sum-smaller : goal.loop-sum-smaller
loop-sum-smaller c = omega (arith, goes_on _ _ _ c.loop-sum.invariant.left _ _ (sym c.step_at.ensures ∙ c.in-Char.is))

pub loop-sum-preserved : goal.loop-sum-preserved
loop-sum-preserved c = sum_more _ _ _ _ c.loop-sum.invariant _ _ _ _ (sym c.step_at.ensures ∙ c.in-Char.is) c.folded-else-is_plain.ensures c.sum_with-sum-else-is_plain.ensures
