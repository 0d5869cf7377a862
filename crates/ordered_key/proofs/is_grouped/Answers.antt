-- `ordered_key::is_grouped` meets its contract: what is left of the walk at the loop's head answers as the whole does.
use Prim.Native.Nat.{◌+◌, ◌-◌}
use mathlib.Core.Path.{◌≡◌, refl, sym, ◌∙◌}
use native.Mathlib.Omega.{arith}
use Rattle.ordered_key.proofs.Texts.{texts-are}
use Rattle.ordered_key.proofs.Grouped.{no_second, walk-starts, group-starts, group-goes-on, group-repeats, group-falls, groups-end}
use Rattle.ordered_key.proofs.is_grouped.Goals as goal
use Rattle.ordered_key.proofs.is_grouped.Goals.{in-Less, in-Same}

pub returns-then-key-ne1 : goal.returns-then-key-ne1
returns-then-key-ne1 c = no_second _ _ _ c.if-key-ne1.true

pub loop-i-init : goal.loop-i-init
loop-i-init c = (omega arith, walk-starts _ _ _ c.if-key-ne1.false)

pub loop-i-preserved : goal.loop-i-preserved
loop-i-preserved c =
    let e : c.loop-i.i + 1 - 1 ≡ c.loop-i.i = omega arith in
    elim c.match-text_order.branch [
      | in-Less w ↦ rw (w.from-is, e) (omega arith, group-starts _ _ _ _ _ (c.loop-i.i - 1) c.loop-i.i (omega arith) c.loop-i.invariant.1 c.loop-i-test.true (texts-are _ _ _ _ _ _ _ _ _ c.if-key-ne1.false c.start_of-before.ensures c.start_of.ensures c.text_order.ensures w.in-Less.is))
      | in-Same w ↦ rw (w.from-is, e) (omega arith, group-goes-on _ _ _ _ _ (c.loop-i.i - 1) c.loop-i.i (omega arith) c.loop-i.invariant.1 c.loop-i-test.true (texts-are _ _ _ _ _ _ _ _ _ c.if-key-ne1.false c.start_of-before.ensures c.start_of.ensures c.text_order.ensures w.in-Same.is) (sym w.is_apart.ensures ∙ w.if-is_apart.true))
    ]

pub returns-in_default : goal.returns-in_default
returns-in_default c = group-repeats _ _ _ _ _ (c.loop-i.i - 1) c.loop-i.i (omega arith) c.loop-i.invariant.1 c.loop-i-test.true (texts-are _ _ _ _ _ _ _ _ _ c.if-key-ne1.false c.start_of-before.ensures c.start_of.ensures c.text_order.ensures c.in-Same.is) (sym c.is_apart.ensures ∙ c.if-is_apart.false)

pub returns-in_default-2 : goal.returns-in_default-2
returns-in_default-2 c = group-falls _ _ _ _ _ (c.loop-i.i - 1) c.loop-i.i (omega arith) c.loop-i.invariant.1 c.loop-i-test.true (texts-are _ _ _ _ _ _ _ _ _ c.if-key-ne1.false c.start_of-before.ensures c.start_of.ensures c.text_order.ensures c.in_default.is)

pub returns : goal.returns
returns c = groups-end _ _ _ _ _ (c.loop-i.i - 1) (c.loop-i.i - 1 + 1) refl c.loop-i.invariant.1 (omega arith)
