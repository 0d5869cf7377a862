-- `wording::contract_start` meets its contract: the code's 17 numbers are computed from the sentences.
use mathlib.Core.Path.{sym}
use mathlib.Core.List.{flatten}
use native.Mathlib.Omega.{arith}
use Rattle.json_bytes.specs.Ascii.{codes}
use Rattle.table_rows.specs.Rows.{count_before}
use Rattle.table_rows.proofs.Laws.{up_from, below_at}
use Rattle.wording.specs.Sentences.{contract_sentences}
use Rattle.wording.specs.Flat.{contract_start}
use Rattle.wording.proofs.Parts.{contract-past}
use Rattle.wording.proofs.contract_start.Goals as goal

pub returns-then-n-lt16 : goal.returns-then-n-lt16
unfolding up_from contract_start count_before flatten contract_sentences codes
returns-then-n-lt16 c = below_at contract_start 0 17 c.args.n (omega arith)

pub returns : goal.returns
returns c = sym (contract-past _ c.if-n-lt16.false)
