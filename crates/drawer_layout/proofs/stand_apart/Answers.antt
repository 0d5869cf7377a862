-- `drawer_layout::stand_apart` meets its contract.
use mathlib.Core.Path.{◌≡◌, sym, ◌∙◌}
use native.Mathlib.Omega.{arith}
use Rattle.drawer_layout.proofs.Laws.{apart-outside, apart-met}
use Rattle.drawer_layout.proofs.stand_apart.Goals as goal
use Rattle.drawer_layout.proofs.stand_apart.Goals.{then-not-stands_inside-via-then-not-stands_inside, then-not-stands_inside-via-else-not-stands_inside+then-first_in_way-i}

pub returns-then-not-stands_inside : goal.returns-then-not-stands_inside
returns-then-not-stands_inside c =
    elim c.then-not-stands_inside.branch [
      | then-not-stands_inside-via-then-not-stands_inside w ↦ apart-outside 20 _ _ _ 20 _ c.loop-i-test.true c.number_in-o.ensures.0 c.number_in-l.ensures.0 (sym c.stands_inside.ensures ∙ w.if-not-stands_inside.true)
      | then-not-stands_inside-via-else-not-stands_inside+then-first_in_way-i w ↦ apart-met 20 _ _ _ 20 _ c.loop-i-test.true c.number_in-o.ensures.0 c.number_in-l.ensures.0 w.first_in_way.ensures w.if-first_in_way-i.true
    ]

pub returns : goal.returns
returns c = let e : c.loop-i.i ≡ 20 = omega arith in sym (rw e at c.loop-i.invariant)
