-- `json_same::run_of` meets its contract: the run from here ends as the whole run does.
use Rattle.std.proofs.Common.{refl, sym, ◌∙◌, arith, rules}
use Rattle.json_same.proofs.Pairs.{run_more, run-differs, run-stops, run_ends}
use Rattle.json_same.proofs.run_of.Goals as goal

pub loop-k-init : goal.loop-k-init
loop-k-init c = (omega arith, refl)

pub loop-k-preserved : goal.loop-k-preserved
loop-k-preserved c = (
  omega arith,
  c.loop-k.invariant.1 ∙ run_more _ _ _ _ (omega arith) (omega arith) _ _ c.from.ensures c.from-in-loop-k.ensures _ c.pair_of.ensures c.in-Same.is,
)

pub returns-in-Apart : goal.returns-in-Apart
returns-in-Apart c = sym (c.loop-k.invariant.1 ∙
    run-differs _ _ _ _ (omega arith) (omega arith) _ _ c.from.ensures c.from-in-loop-k.ensures _ c.pair_of.ensures c.in-Apart.is)

pub returns-in-Other : goal.returns-in-Other
returns-in-Other c = sym (c.loop-k.invariant.1 ∙
    run-stops _ _ _ _ (omega arith) (omega arith) _ _ c.from.ensures c.from-in-loop-k.ensures _ c.pair_of.ensures c.in-Other.is)

pub returns : goal.returns
returns c = sym (c.loop-k.invariant.1 ∙ search (rules, run_ends))
