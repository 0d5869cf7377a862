-- `json_number::whole_of` meets its contract: below 15 the power divides c, from 15 on it multiplies c.
use mathlib.Core.Path.{sym, ◌∙◌}
use native.Mathlib.Omega.{arith}
use Rattle.json_number.proofs.Limits.{within-c, within-p}
use Rattle.json_number.proofs.Scale.{ten-pos, whole-outside, whole-zero, whole-fraction, whole-lowered, whole-raised, whole-large, raised-bound}
use Rattle.json_number.proofs.whole_of.Goals as goal

pub returns-then-not-within_limits : goal.returns-then-not-within_limits
returns-then-not-within_limits c = sym (whole-outside _ _ _ (sym c.within_limits.ensures ∙ c.if-not-within_limits.true))

pub returns-then-c-eq0 : goal.returns-then-c-eq0
returns-then-c-eq0 c = sym (whole-zero _ _ _ (sym c.within_limits.ensures ∙ c.if-not-within_limits.false) c.if-c-eq0.true)

pub nonzero_rem-c : goal.nonzero_rem-c
nonzero_rem-c c = omega (arith, ten-pos _ c.ten_to-ten.ensures)

pub returns-then-c-ten-ne0 : goal.returns-then-c-ten-ne0
returns-then-c-ten-ne0 c = sym (whole-fraction _ _ _ _ _ (sym c.within_limits.ensures ∙ c.if-not-within_limits.false) (omega arith) c.ten_to-ten.ensures c.if-c-ten-ne0.true)

pub nonzero_div-result : goal.nonzero_div-result
nonzero_div-result c = omega (arith, ten-pos _ c.ten_to-ten.ensures)

pub returns-then-p15-lt15 : goal.returns-then-p15-lt15
returns-then-p15-lt15 c = sym (whole-lowered _ _ _ _ _ (sym c.within_limits.ensures ∙ c.if-not-within_limits.false) (omega arith) c.ten_to-ten.ensures (within-c _ _ (sym c.within_limits.ensures ∙ c.if-not-within_limits.false)) c.if-c-eq0.false c.if-c-ten-ne0.false)

pub ten_to-ten-requires-2 : goal.ten_to-ten-requires-2
ten_to-ten-requires-2 c = omega (arith, within-p _ _ (sym c.within_limits.ensures ∙ c.if-not-within_limits.false))

pub nonzero_div-ten : goal.nonzero_div-ten
nonzero_div-ten c = omega (arith, ten-pos _ c.ten_to-ten-2.ensures)

pub returns-then-ten-c : goal.returns-then-ten-c
returns-then-ten-c c = sym (whole-large _ _ _ _ _ (sym c.within_limits.ensures ∙ c.if-not-within_limits.false) (omega arith) c.ten_to-ten-2.ensures c.if-ten-c.true)

pub overflow_mul-result : goal.overflow_mul-result
overflow_mul-result c = omega (arith, raised-bound _ _ c.ten_to-ten-2.ensures c.if-ten-c.false)

pub returns : goal.returns
returns c = sym (whole-raised _ _ _ _ _ (sym c.within_limits.ensures ∙ c.if-not-within_limits.false) (omega arith) c.ten_to-ten-2.ensures c.if-c-eq0.false c.if-ten-c.false)
