-- `json_number::one_digit` meets its contract: the digit and the byte behind it decide the definition.
use mathlib.Core.Path.{◌≡◌, sym, ◌∙◌}
use mathlib.Core.Bool.{true}
use native.Mathlib.Omega.{arith}
use Rattle.json_number.specs.Number.{is_digit}
use Rattle.json_number.proofs.Digits.{digit-range}
use Rattle.json_number.proofs.Alone.{digit-inside, no_digit, digit-goes-on, digit-stands}
use Rattle.json_number.proofs.one_digit.Goals as goal
use Rattle.json_number.proofs.one_digit.Goals.{Else-not-is_digit}

pub returns-then-not-is_digit : goal.returns-then-not-is_digit
returns-then-not-is_digit c = sym (no_digit _ _ c.byte_at-b.ensures (sym c.is_digit.ensures ∙ c.if-not-is_digit.true))

digit : (c : Else-not-is_digit) → is_digit c.byte_at-b.result ≡ true
digit c = sym c.is_digit.ensures ∙ c.if-not-is_digit.false

pub overflow_add-at : goal.overflow_add-at
overflow_add-at c = omega (arith, digit-inside c.args.s.now _ c.byte_at-b.ensures (digit c))

pub returns-then-goes_on : goal.returns-then-goes_on
returns-then-goes_on c = sym (digit-goes-on _ _ c.byte_at-b.ensures (digit (goal.at.returns-then-goes_on c).Else-not-is_digit) c.byte_at.ensures (sym c.goes_on.ensures ∙ c.if-goes_on.true))

pub overflow_sub-result : goal.overflow_sub-result
overflow_sub-result c = omega (arith, c.wide.ensures, (digit-range _ (digit (goal.at.overflow_sub-result c).Else-not-is_digit)).0)

pub returns : goal.returns
returns c = sym (digit-stands _ _ c.byte_at-b.ensures (digit (goal.at.returns c).Else-not-is_digit) c.byte_at.ensures (sym c.goes_on.ensures ∙ c.if-goes_on.false) c.wide.ensures)
