-- `json_number::unsigned_at` meets its contract: a digit that stands alone is the number, and any other number is read in full.
use mathlib.Core.Path.{sym, ◌∙◌}
use native.Mathlib.Omega.{arith}
use Rattle.json_number.proofs.Digits.{digit-range}
use Rattle.json_number.proofs.Alone.{digit-inside, alone-is}
use Rattle.json_number.proofs.unsigned_at.Goals as goal

pub returns-then-not-is_digit : goal.returns-then-not-is_digit
returns-then-not-is_digit c = c.several_at.ensures

pub overflow_add-end : goal.overflow_add-end
overflow_add-end c = omega (arith, digit-inside c.args.s.now _ c.byte_at-b.ensures (sym c.is_digit.ensures ∙ c.if-not-is_digit.false))

pub returns-then-goes_on : goal.returns-then-goes_on
returns-then-goes_on c = c.several_at-then-goes_on.ensures

pub overflow_sub-wide : goal.overflow_sub-wide
overflow_sub-wide c = omega (arith, c.wide.ensures, (digit-range _ (sym c.is_digit.ensures ∙ c.if-not-is_digit.false)).0)

pub returns : goal.returns
returns c = alone-is _ _ _ c.byte_at-b.ensures (sym c.is_digit.ensures ∙ c.if-not-is_digit.false) c.byte_at.ensures (sym c.goes_on.ensures ∙ c.if-goes_on.false) c.wide.ensures c.value_of-value.ensures
