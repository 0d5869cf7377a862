-- `json_number::short_behind` meets its contract, by the byte where the point would stand and the run behind it.
use mathlib.Core.Path.{sym, ◌∙◌}
use native.Mathlib.Omega.{arith}
use lib.Dec.{lit<}
use Rattle.json_bytes.proofs.Laws.{inside}
use Rattle.json_number.proofs.Short.{short-whole, short-empty, short-too-long, short-fraction}
use Rattle.json_number.proofs.short_behind.Goals as goal

pub returns-then-byte_at-ne46 : goal.returns-then-byte_at-ne46
returns-then-byte_at-ne46 c = c.unless_raised.ensures ∙ sym (short-whole _ _ _ _ c.byte_at.ensures c.if-byte_at-ne46.true)

pub overflow_add-first : goal.overflow_add-first
overflow_add-first c = omega (arith, inside c.args.s.now _ _ (sym c.byte_at.ensures ∙ c.if-byte_at-ne46.false) (lit< tt))

pub returns-then-end-first : goal.returns-then-end-first
returns-then-end-first c = sym (short-empty _ _ _ _ c.byte_at.ensures c.if-byte_at-ne46.false c.digits_end-end.ensures c.if-end-first.true)

pub returns-then-end-from-gt16 : goal.returns-then-end-from-gt16
returns-then-end-from-gt16 c = sym (short-too-long _ _ _ _ c.byte_at.ensures c.if-byte_at-ne46.false c.digits_end-end.ensures c.if-end-first.false c.if-end-from-gt16.true)

pub returns : goal.returns
returns c = c.unless_raised-2.ensures ∙ sym (short-fraction _ _ _ _ c.byte_at.ensures c.if-byte_at-ne46.false c.digits_end-end.ensures c.if-end-first.false c.if-end-from-gt16.false)
