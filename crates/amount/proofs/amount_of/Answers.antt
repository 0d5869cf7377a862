-- `amount::amount_of` meets its contract: by cases on the number.
-- Assumes nothing.
use mathlib.Core.Path.{sym, ap, ◌∙◌}
use Rattle.amount.specs.Amount.{amount_of}
use Rattle.exact_sums.proofs.Signed.{read_back}
use Rattle.amount.proofs.Laws.{amount-near}
use Rattle.amount.proofs.amount_of.Goals as goal

pub returns-in-Is : goal.returns-in-Is
returns-in-Is c = read_back _ (c.limited.ensures ∙ ap amount_of (sym c.in-Is.is)) (amount-near c.args.x)
