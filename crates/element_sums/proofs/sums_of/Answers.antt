-- `element_sums::sums_of` meets its contract: each way out of it is one of the definition.
-- Assumes nothing.
use Prim.Native.Nat.{ℕ}
use mathlib.Core.Path.{sym, ◌∙◌}
use native.Mathlib.Omega.{arith}
use lib.ListN.{length-replicate, replicate}
use lib.Seq.{length-take-le}
use Rattle.element_sums.proofs.Laws.{too_many, unfit, summed}
use Rattle.element_sums.proofs.sums_of.Goals as goal
use Rattle.element_sums.proofs.sums_of.Goals.{then-records-gt4096-via-then-records-gt4096, then-records-gt4096-via-else-records-gt4096+then-not-all_fit}

pub returns-then-records-gt4096 : goal.returns-then-records-gt4096
returns-then-records-gt4096 c = elim c.then-records-gt4096.branch [
  | then-records-gt4096-via-then-records-gt4096 w ↦ c.no_sums.ensures ∙ too_many _ _ _ _ _ _ _ _ w.if-records-gt4096.true
  | then-records-gt4096-via-else-records-gt4096+then-not-all_fit w ↦ c.no_sums.ensures ∙ unfit _ _ _ _ _ _ _ _ w.all_fit.ensures w.if-not-all_fit.true
]

pub sums_found-requires : goal.sums_found-requires
sums_found-requires c = omega (arith, length-take-le c.args.table.now.records (replicate {A = ℕ} 4096 0) (omega (arith, length-replicate {A = ℕ} 4096 0)))

pub returns : goal.returns
returns c = summed _ _ _ _ _ _ _ _ (omega arith) c.all_fit.ensures c.if-not-all_fit.false _ (length-take-le _ _ (omega (arith, length-replicate {A = ℕ} 4096 0))) c.sums_found.ensures
