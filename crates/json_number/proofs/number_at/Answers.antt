-- `json_number::number_at` meets its contract, by the byte where the sign would stand.
use mathlib.Core.Path.{sym, ◌∙◌}
use native.Mathlib.Omega.{arith}
use lib.Dec.{lit<}
use Rattle.json_bytes.proofs.Laws.{inside}
use Rattle.json_number.proofs.Parts.{number-minus, number-plain}
use Rattle.json_number.proofs.number_at.Goals as goal

pub overflow_add-at : goal.overflow_add-at
overflow_add-at c = omega (arith, inside c.args.s.now _ _ (sym c.byte_at.ensures ∙ c.if-byte_at-eq45.true) (lit< tt))

pub returns-then-byte_at-eq45 : goal.returns-then-byte_at-eq45
returns-then-byte_at-eq45 c = c.unsigned_at.ensures ∙ sym (number-minus _ _ _ c.byte_at.ensures c.if-byte_at-eq45.true)

pub returns : goal.returns
returns c = c.unsigned_at-2.ensures ∙ sym (number-plain _ _ _ c.byte_at.ensures c.if-byte_at-eq45.false)
