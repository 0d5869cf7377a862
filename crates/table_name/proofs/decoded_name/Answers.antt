-- `table_name::decoded_name` meets its contract: the characters put down and those left are those of the name.
use mathlib.Core.Path.{refl, sym, ◌∙◌}
use native.Mathlib.Omega.{arith}
use lib.Dec.{lit<}
use Rattle.json_bytes.proofs.Laws.{inside}
use Rattle.table_name.proofs.Words.{name-decoded}
use Rattle.table_name.proofs.Spelling.{spell-start, spell-goes-on, spell-more, spell-inside, spell-whole, spell-chars, spell-length}
use Rattle.table_name.proofs.decoded_name.Goals as goal

pub overflow_add-i : goal.overflow_add-i
overflow_add-i c = omega (arith, inside c.args.s.now _ 34 (sym c.byte_at.ensures ∙ c.if-byte_at-ne34.false) (lit< tt))

pub loop-code-init : goal.loop-code-init
loop-code-init c = spell-start _ _ _ refl (sym c.byte_at.ensures ∙ c.if-byte_at-ne34.false)

pub loop-code-smaller : goal.loop-code-smaller
loop-code-smaller c = omega (arith, spell-goes-on _ _ _ _ _ c.loop-code.invariant _ _ (sym c.step_at.ensures ∙ c.in-Char.is))

pub loop-code-preserved : goal.loop-code-preserved
loop-code-preserved c = spell-more _ _ _ _ _ c.loop-code.invariant _ _ (sym c.step_at.ensures ∙ c.in-Char.is) (omega arith)

pub slice_bounds-word-end : goal.slice_bounds-word-end
slice_bounds-word-end c = omega (arith, c.loop-code.invariant.fits, c.loop-code.invariant.size)

pub slice_bounds-word_index-end : goal.slice_bounds-word_index-end
slice_bounds-word_index-end c = sym (spell-length _ _ _ _ _ c.loop-code.invariant)

pub word_index-index-requires : goal.word_index-index-requires
word_index-index-requires c = omega (arith, spell-length _ _ _ _ _ c.loop-code.invariant, c.if-n-eq0.false)

pub overflow_add-i-in-Close : goal.overflow_add-i-in-Close
overflow_add-i-in-Close c = omega (arith, spell-inside _ _ _ _ _ c.loop-code.invariant (sym c.step_at.ensures ∙ c.in-Close.is))

pub returns-in-Close : goal.returns-in-Close
returns-in-Close c = name-decoded _ _ _ _ _ _ _ _ c.known.ensures (spell-whole _ _ _ _ _ c.loop-code.invariant (sym c.step_at.ensures ∙ c.in-Close.is)) _ (spell-chars _ _ _ _ _ c.loop-code.invariant (sym c.step_at.ensures ∙ c.in-Close.is)) c.word_index-index.ensures
