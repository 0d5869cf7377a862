-- `program_io::put_long` meets its contract: two numbers of four bytes, one behind the other.
use mathlib.Core.Path.{◌∙◌}
use native.Mathlib.Omega.{arith}
use borrow.Author.Rules.{rules}
use Rattle.bundle_bytes.specs.Words.{word_of}
use Rattle.bundle_bytes.proofs.Laws.{written_none}
use Rattle.program_io.specs.Wire.{long_of}
use Rattle.program_io.proofs.Laws.{written_both}
use Rattle.program_io.proofs.put_long.Goals as goal

pub returns-then-out-lt8 : goal.returns-then-out-lt8
unfolding long_of word_of
returns-then-out-lt8 c = written_none _ _ (long_of c.args.x) (omega arith)

pub returns-then-out-at : goal.returns-then-out-at
unfolding long_of word_of
returns-then-out-at c = written_none _ _ (long_of c.args.x) (omega arith)

pub returns : goal.returns
unfolding long_of word_of
returns c = c.put_word-2.ensures ∙ rw c.put_word.ensures (written_both _ _ (word_of _) (word_of _) (omega arith))
