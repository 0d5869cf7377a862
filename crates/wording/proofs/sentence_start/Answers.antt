-- `wording::sentence_start` meets its contract: the code's 87 numbers are computed from the sentences.
use mathlib.Core.Path.{sym}
use mathlib.Core.List.{flatten}
use native.Mathlib.Omega.{arith}
use Rattle.json_bytes.specs.Ascii.{codes}
use Rattle.table_rows.specs.Rows.{count_before}
use Rattle.table_rows.proofs.Laws.{up_from, below_at}
use Rattle.wording.specs.Sentences.{sentences}
use Rattle.wording.specs.Flat.{sentence_start}
use Rattle.wording.proofs.Parts.{start-past}
use Rattle.wording.proofs.sentence_start.Goals as goal

pub returns-then-n-lt86 : goal.returns-then-n-lt86
unfolding up_from sentence_start count_before flatten sentences codes
returns-then-n-lt86 c = below_at sentence_start 0 87 c.args.n (omega arith)

pub returns : goal.returns
returns c = sym (start-past _ c.if-n-lt86.false)
