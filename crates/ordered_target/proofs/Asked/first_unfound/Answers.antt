-- `ordered_target::Asked::first_unfound` meets its contract: what is left of the search at the loop's head answers as the whole does, and in order
-- a record that is not seen to hold breaks the rule.
use Rattle.std.proofs.Common.{◌-◌, refl, sym, ◌∙◌, arith}
use Rattle.rule_cells.proofs.Laws.{search-goes-on, search-ends}
use Rattle.ordered_target.proofs.Asked.first_unfound.Goals as goal

pub loop-r-preserved : goal.loop-r-preserved
loop-r-preserved c = c.loop-r.invariant ∙ search-goes-on _ _ _ c.loop-r-test.true c.in-Some.ensures

pub returns : goal.returns
returns c = record { first_kept = c.loop-r.invariant ∙ search-ends _ _ _ c.loop-r-test.false ∙ sym (search-ends _ _ _ (omega arith)); result_breaks = λ o h. absurd (omega (arith, h)) }
