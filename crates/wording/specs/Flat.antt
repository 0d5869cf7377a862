-- For the code's sake alone: the sentences laid out flat, as it holds them.
use Rattle.std.specs.Prelude.{ℕ}
use mathlib.Core.List.{List, flatten}
use Rattle.table_rows.specs.Rows.{count_before}
use Rattle.wording.specs.Sentences.{sentences, contract_sentences}

unfoldable pub all_sentences : List ℕ
all_sentences = flatten sentences

unfoldable pub sentence_start : ℕ → ℕ
sentence_start n = count_before sentences n

unfoldable pub all_contract : List ℕ
all_contract = flatten contract_sentences

unfoldable pub contract_start : ℕ → ℕ
contract_start n = count_before contract_sentences n
