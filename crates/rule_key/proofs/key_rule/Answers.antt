-- `rule_key::key_rule` meets its contract: what is left of the search at the loop's head answers as the whole does.
use Prim.Native.Nat.{◌+◌, ◌-◌}
use mathlib.Core.Path.{◌≡◌, refl, sym, ap, ◌∙◌}
use native.Mathlib.Omega.{arith}
use borrow.Author.Tests.{lt-ltb, le-ltb}
use Rattle.rule_cells.specs.Cells.{first_from, first_that}
use Rattle.rule_cells.specs.Seen.{seen}
use Rattle.rule_cells.proofs.Laws.{search-hits, search-goes-on, search-ends}
use Rattle.rule_key.specs.Key.{earliest, repeats}
use Rattle.rule_key.proofs.Compare.{repeats-told, earliest-any, rule-is}
use Rattle.rule_key.proofs.key_rule.Goals as goal

pub returns-then-same-gt0 : goal.returns-then-same-gt0
returns-then-same-gt0 c =
    let t = c.args.table.now in
    let z : c.loop-i.i + 1 - 1 ≡ c.loop-i.i = omega arith in
    sym (rule-is (seen t) c.args.key (c.loop-i.i + 1) _
    (sym c.loop-i.invariant ∙ search-hits _ _ _ (omega arith) (repeats-told t c.args.key c.loop-i.i ∙ rw (← c.earliest_same-same.ensures) (lt-ltb 0 _ c.if-same-gt0.true)))
    (ap (earliest (seen t) c.args.key) z ∙ earliest-any t c.args.key c.loop-i.i ∙ sym c.earliest_same-same.ensures))

pub loop-i-preserved : goal.loop-i-preserved
loop-i-preserved c =
    let t = c.args.table.now in
    sym (search-goes-on _ _ _ (omega arith) (repeats-told t c.args.key c.loop-i.i ∙ rw (← c.earliest_same-same.ensures) (le-ltb 0 _ c.if-same-gt0.false))) ∙ c.loop-i.invariant

pub returns : goal.returns
unfolding earliest first_that first_from
returns c =
    let t = c.args.table.now in
    sym (rule-is (seen t) c.args.key 0 0 (sym c.loop-i.invariant ∙ search-ends (repeats (seen t) c.args.key) t.records c.loop-i.i (omega arith)) refl)
