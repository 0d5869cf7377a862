-- `json_number::signed_at` meets its contract, by the byte where the sign would stand.
use mathlib.Core.Path.{sym, ap, ◌∙◌}
use native.Mathlib.Omega.{arith}
use lib.Dec.{lit<}
use Rattle.json_bytes.proofs.Laws.{inside}
use Rattle.json_number.specs.Capped.{capped_exponent}
use Rattle.json_number.proofs.Parts.{signed-minus, signed-plus, signed-none}
use Rattle.json_number.proofs.signed_at.Goals as goal

pub overflow_add-at : goal.overflow_add-at
overflow_add-at c = omega (arith, inside c.args.s.now _ _ (sym c.byte_at-sign.ensures ∙ c.if-sign-eq45.true) (lit< tt))

pub returns-then-sign-eq45 : goal.returns-then-sign-eq45
returns-then-sign-eq45 c = c.power_at.ensures ∙ ap capped_exponent (sym (signed-minus _ _ _ c.byte_at-sign.ensures c.if-sign-eq45.true))

pub overflow_add-at-then-sign-eq43 : goal.overflow_add-at-then-sign-eq43
overflow_add-at-then-sign-eq43 c = omega (arith, inside c.args.s.now _ _ (sym c.byte_at-sign.ensures ∙ c.if-sign-eq43.true) (lit< tt))

pub returns-then-sign-eq43 : goal.returns-then-sign-eq43
returns-then-sign-eq43 c = c.power_at-then-sign-eq43.ensures ∙ ap capped_exponent (sym (signed-plus _ _ _ c.byte_at-sign.ensures c.if-sign-eq45.false c.if-sign-eq43.true))

pub returns : goal.returns
returns c = c.power_at-2.ensures ∙ ap capped_exponent (sym (signed-none _ _ _ c.byte_at-sign.ensures c.if-sign-eq45.false c.if-sign-eq43.false))
