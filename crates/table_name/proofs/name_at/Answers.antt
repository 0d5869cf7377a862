-- `table_name::name_at` meets its contract: a plain name is looked for by its bytes, any other by its characters.
use mathlib.Core.Path.{refl}
use native.Mathlib.Omega.{arith}
use Rattle.json_text.proofs.Plain.{plain-inside}
use Rattle.table_name.proofs.Words.{plain_word, name-plain}
use Rattle.table_name.proofs.name_at.Goals as goal

pub overflow_add-at : goal.overflow_add-at
overflow_add-at c = omega (arith, (plain-inside c.args.s.now _ _ c.plain_end-close.ensures c.if-close-gt0.true).0, (plain-inside c.args.s.now _ _ c.plain_end-close.ensures c.if-close-gt0.true).1)

pub word_index-index-requires : goal.word_index-index-requires
word_index-index-requires c = plain_word _ _ _ c.plain_end-close.ensures c.if-close-gt0.true _ c.part.ensures

pub overflow_add-close : goal.overflow_add-close
overflow_add-close c = omega (arith, (plain-inside c.args.s.now _ _ c.plain_end-close.ensures c.if-close-gt0.true).1)

pub returns-then-close-gt0 : goal.returns-then-close-gt0
returns-then-close-gt0 c = name-plain _ _ _ _ _ _ _ _ c.known.ensures _ c.plain_end-close.ensures c.if-close-gt0.true refl _ c.part.ensures c.word_index-index.ensures

pub returns : goal.returns
returns c = c.decoded_name.ensures
