-- `amount::limited` meets its contract: the test decides the definition.
-- Assumes nothing.
use mathlib.Core.Path.{sym, ◌∙◌}
use Rattle.json_number.specs.declared.Integer.TheVariants.{Is}
use Rattle.exact_sums.proofs.Signed.{read_back}
use Rattle.amount.proofs.Laws.{at-most-largest, amount-near}
use Rattle.amount.proofs.limited.Goals as goal

pub returns-else-size-gt-LARGEST_AMOUNT : goal.returns-else-size-gt-LARGEST_AMOUNT
returns-else-size-gt-LARGEST_AMOUNT c = read_back _ (c.signed.ensures ∙ sym (at-most-largest _ _ c.if-size-gt-LARGEST_AMOUNT.false)) (amount-near (Is c.args.negative c.args.size))
