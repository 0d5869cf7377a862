-- `json_number::behind_sign` meets its contract, by the byte where the sign would stand.
use mathlib.Core.Path.{sym, ◌∙◌}
use native.Mathlib.Omega.{arith}
use borrow.Author.Tests.{eq-eqb, ne_eqb}
use lib.Dec.{lit<}
use Rattle.json_bytes.proofs.Laws.{inside}
use Rattle.json_number.specs.Short.{behind_sign}
use Rattle.json_number.proofs.behind_sign.Goals as goal

pub overflow_add-result : goal.overflow_add-result
overflow_add-result c = omega (arith, inside c.args.s.now _ _ (sym c.byte_at.ensures ∙ c.if-byte_at-eq45.true) (lit< tt))

pub returns-then-byte_at-eq45 : goal.returns-then-byte_at-eq45
unfolding behind_sign
returns-then-byte_at-eq45 c = rw (← c.byte_at.ensures, eq-eqb _ 45 c.if-byte_at-eq45.true)

pub returns : goal.returns
unfolding behind_sign
returns c = rw (← c.byte_at.ensures, ne_eqb _ 45 c.if-byte_at-eq45.false)
