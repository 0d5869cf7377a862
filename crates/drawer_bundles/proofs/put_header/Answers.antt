-- `drawer_bundles::put_header` meets its contract: the count, and behind it one entry more with each turn.
-- Assumes nothing.
use mathlib.Core.Path.{refl, ap, ◌∙◌}
use mathlib.Core.Bool.{not}
use native.Mathlib.Omega.{arith}
use Rattle.bundle.proofs.Laws.{header-fits, file-fits, end-begins, end-turn, header-begins, header-turn, header-ends, shown-present}
use Rattle.drawer_bundles.proofs.put_header.Goals as goal

pub loop-i-init : goal.loop-i-init
loop-i-init c = (refl, end-begins 20 _, header-begins 20 _ _ (omega (arith, header-fits 20 _ _ c.requires.0)) c.put_word.ensures)

pub put_entry-requires : goal.put_entry-requires
put_entry-requires c = let h = file-fits 20 _ 1048576 c.loop-i.i c.requires.1 c.loop-i-test.true c.loop-i.invariant.1 c.part_at-size.ensures in
    (omega (arith, c.loop-i-test.true), omega (arith, h), omega (arith, h))

pub overflow_add-end : goal.overflow_add-end
overflow_add-end c = omega (arith, file-fits 20 _ 1048576 c.loop-i.i c.requires.1 c.loop-i-test.true c.loop-i.invariant.1 c.part_at-size.ensures)

pub loop-i-preserved : goal.loop-i-preserved
loop-i-preserved c = (c.put_entry.auto.out ∙ c.loop-i.invariant.0, end-turn 20 _ c.loop-i.i c.loop-i.invariant.1 c.part_at-size.ensures, header-turn 20 _ _ c.loop-i.i (omega (arith, header-fits 20 _ _ c.requires.0, c.loop-i-test.true, c.put_word.auto.out)) c.loop-i.invariant.2 c.part_at-size.ensures (ap not c.is_omitted.ensures ∙ shown-present _ c.loop-i.i) c.loop-i.invariant.1 c.put_entry.ensures)

pub shape_of-out : goal.shape_of-out
shape_of-out c = c.loop-i.invariant.0 ∙ c.put_word.auto.out

pub returns : goal.returns
returns c = header-ends 20 _ _ c.loop-i.i (omega arith) c.put_word.ensures c.loop-i.invariant.2
