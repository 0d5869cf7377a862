-- `json_text::plain_end` meets its contract: the two quotes decide the definition.
use Rattle.std.proofs.Common.{sym, ◌∙◌, arith, lit<}
use Rattle.json_bytes.proofs.Laws.{inside}
use Rattle.json_text.proofs.Plain.{plain-unopened, plain-empty, plain_closed, plain-goes-on}
use Rattle.json_text.proofs.plain_end.Goals as goal

pub returns-then-byte_at-ne34 : goal.returns-then-byte_at-ne34
returns-then-byte_at-ne34 c = sym (plain-unopened _ _ (λ e. c.if-byte_at-ne34.true (c.byte_at.ensures ∙ e)))

pub overflow_add-at : goal.overflow_add-at
overflow_add-at c = omega (arith, inside c.args.s.now _ 34 (sym c.byte_at.ensures ∙ c.if-byte_at-ne34.false) (lit< tt))

pub overflow_add-at-2 : goal.overflow_add-at-2
overflow_add-at-2 c = omega (arith, inside c.args.s.now _ 34 (sym c.byte_at.ensures ∙ c.if-byte_at-ne34.false) (lit< tt))

pub returns-then-j-at : goal.returns-then-j-at
returns-then-j-at c = sym (plain-empty _ _ _ (sym c.byte_at.ensures ∙ c.if-byte_at-ne34.false) c.run_end-j.ensures c.if-j-at.true)

pub returns-then-byte_at-eq34 : goal.returns-then-byte_at-eq34
returns-then-byte_at-eq34 c = sym (plain_closed _ _ _ (sym c.byte_at.ensures ∙ c.if-byte_at-ne34.false) c.run_end-j.ensures c.if-j-at.false (sym c.byte_at-2.ensures ∙ c.if-byte_at-eq34.true))

pub returns : goal.returns
returns c = sym (plain-goes-on _ _ _ (sym c.byte_at.ensures ∙ c.if-byte_at-ne34.false) c.run_end-j.ensures c.if-j-at.false (λ e. c.if-byte_at-eq34.false (c.byte_at-2.ensures ∙ e)))
