-- `json_number::coefficient_at` meets its contract: a zero stands alone, and any other digit begins a run.
use mathlib.Core.Path.{sym, ap, ◌∙◌}
use native.Mathlib.Omega.{arith}
use lib.Dec.{lit<}
use Rattle.json_bytes.proofs.Laws.{inside}
use Rattle.json_number.specs.Capped.{capped_coefficient}
use Rattle.json_number.proofs.Digits.{carried_none}
use Rattle.json_number.proofs.Parts.{zero-alone, no-digits, some-digits}
use Rattle.json_number.proofs.coefficient_at.Goals as goal

pub overflow_add-at : goal.overflow_add-at
overflow_add-at c = omega (arith, inside c.args.s.now _ _ (sym c.byte_at.ensures ∙ c.if-byte_at-eq48.true) (lit< tt))

pub returns-then-byte_at-eq48 : goal.returns-then-byte_at-eq48
returns-then-byte_at-eq48 c = c.fraction_at.ensures 0 carried_none ∙ ap capped_coefficient (sym (zero-alone _ _ _ c.byte_at.ensures c.if-byte_at-eq48.true))

pub returns-then-end-at : goal.returns-then-end-at
returns-then-end-at c = ap capped_coefficient (sym (no-digits _ _ _ c.byte_at.ensures c.if-byte_at-eq48.false c.run_from-digits.ensures.0 c.if-end-at.true))

pub returns : goal.returns
returns c = c.fraction_at-2.ensures _ (c.run_from-digits.ensures.2 0 carried_none) ∙ ap capped_coefficient (sym (some-digits _ _ _ c.byte_at.ensures c.if-byte_at-eq48.false c.run_from-digits.ensures.0 c.if-end-at.false))
