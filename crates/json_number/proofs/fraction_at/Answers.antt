-- `json_number::fraction_at` meets its contract, by the byte where the point would stand and the run behind it.
use mathlib.Core.Path.{sym, ◌∙◌}
use native.Mathlib.Omega.{arith}
use lib.Dec.{lit<}
use Rattle.json_bytes.proofs.Laws.{inside}
use Rattle.json_number.proofs.Parts.{fraction-absent, fraction-empty, fraction-stands}
use Rattle.json_number.proofs.fraction_at.Goals as goal

pub returns-then-byte_at-ne46 : goal.returns-then-byte_at-ne46
returns-then-byte_at-ne46 c = λ x h. fraction-absent _ _ _ c.byte_at.ensures x c.if-byte_at-ne46.true h

pub overflow_add-from : goal.overflow_add-from
overflow_add-from c = omega (arith, inside c.args.s.now _ _ (sym c.byte_at.ensures ∙ c.if-byte_at-ne46.false) (lit< tt))

pub returns-then-end-from : goal.returns-then-end-from
returns-then-end-from c = λ x h. fraction-empty _ _ _ c.byte_at.ensures x c.if-byte_at-ne46.false c.run_from-digits.ensures.0 c.if-end-from.true

pub returns : goal.returns
returns c = λ x h. fraction-stands _ _ _ c.byte_at.ensures x c.if-byte_at-ne46.false c.run_from-digits.ensures.0 (c.run_from-digits.ensures.2 x h) c.if-end-from.false
