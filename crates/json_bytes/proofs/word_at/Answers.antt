-- `json_bytes::word_at` meets its contract: what is left of the word, read from here, answers as the whole word does.
use Rattle.std.proofs.Common.{sym, ◌∙◌, arith, rules}
use Rattle.json_bytes.proofs.Laws.{word_more, word-stops, word-ends}
use Rattle.json_bytes.proofs.word_at.Goals as goal

pub returns-then-byte_at-letter : goal.returns-then-byte_at-letter
returns-then-byte_at-letter c = sym (c.loop-k.invariant.1 ∙
    word-stops _ _ _ _ c.loop-k-test.true (λ e. c.if-byte_at-letter.true (c.byte_at.ensures ∙ e)))

pub loop-k-preserved : goal.loop-k-preserved
loop-k-preserved c = (
  omega arith,
  c.loop-k.invariant.1 ∙
      word_more _ _ _ _ c.loop-k-test.true (sym c.byte_at.ensures ∙ c.if-byte_at-letter.false),
)

pub returns : goal.returns
returns c = sym (c.loop-k.invariant.1 ∙ search (rules, word-ends))
