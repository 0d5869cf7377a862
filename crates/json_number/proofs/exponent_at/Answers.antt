-- `json_number::exponent_at` meets its contract, by the byte where the letter would stand.
use mathlib.Core.Path.{sym, ap, ◌∙◌}
use native.Mathlib.Omega.{arith}
use lib.Dec.{lit<}
use Rattle.json_bytes.proofs.Laws.{inside}
use Rattle.json_number.specs.Capped.{capped_exponent}
use Rattle.json_number.proofs.Parts.{letter-small, letter-large, letter-none}
use Rattle.json_number.proofs.exponent_at.Goals as goal

pub overflow_add-at : goal.overflow_add-at
overflow_add-at c = omega (arith, inside c.args.s.now _ _ (sym c.byte_at-letter.ensures ∙ c.if-letter-eq101.true) (lit< tt))

pub returns-then-letter-eq101 : goal.returns-then-letter-eq101
returns-then-letter-eq101 c = c.signed_at.ensures ∙ ap capped_exponent (sym (letter-small _ _ _ c.byte_at-letter.ensures c.if-letter-eq101.true))

pub overflow_add-at-then-letter-eq69 : goal.overflow_add-at-then-letter-eq69
overflow_add-at-then-letter-eq69 c = omega (arith, inside c.args.s.now _ _ (sym c.byte_at-letter.ensures ∙ c.if-letter-eq69.true) (lit< tt))

pub returns-then-letter-eq69 : goal.returns-then-letter-eq69
returns-then-letter-eq69 c = c.signed_at-then-letter-eq69.ensures ∙ ap capped_exponent (sym (letter-large _ _ _ c.byte_at-letter.ensures c.if-letter-eq101.false c.if-letter-eq69.true))

pub returns : goal.returns
returns c = ap capped_exponent (sym (letter-none _ _ _ c.byte_at-letter.ensures c.if-letter-eq101.false c.if-letter-eq69.false))
