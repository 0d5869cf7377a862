-- `bundle::put_header` meets its contract: the count, and behind it one entry more with each turn.
use mathlib.Core.Path.{refl, ◌∙◌}
use native.Mathlib.Omega.{arith}
use Rattle.bundle.proofs.Laws.{header-fits, file-fits, end-begins, end-turn, header-begins, header-turn, header-ends}
use Rattle.bundle.proofs.put_header.Goals as goal

pub overflow_cast-n : goal.overflow_cast-n
overflow_cast-n c = omega (arith, header-fits _ _ 1048576 c.requires.1)

pub overflow_mul-end : goal.overflow_mul-end
overflow_mul-end c = omega (arith, header-fits _ _ 1048576 c.requires.1)

pub overflow_add-end : goal.overflow_add-end
overflow_add-end c = omega (arith, header-fits _ _ 1048576 c.requires.1)

pub loop-i-init : goal.loop-i-init
loop-i-init c = (refl, end-begins _ _, header-begins _ _ _ (omega (arith, header-fits _ _ _ c.requires.0)) c.put_word.ensures)

pub put_entry-requires : goal.put_entry-requires
put_entry-requires c = let h = file-fits _ _ 1048576 c.loop-i.i c.requires.1 (omega arith) c.loop-i.invariant.1 c.part_after-size.ensures in
    (omega (arith, header-fits _ _ 1048576 c.requires.1), omega (arith, h), omega (arith, h))

pub overflow_add-end-in-loop-i : goal.overflow_add-end-in-loop-i
overflow_add-end-in-loop-i c = omega (arith, file-fits _ _ 1048576 c.loop-i.i c.requires.1 (omega arith) c.loop-i.invariant.1 c.part_after-size.ensures)

pub loop-i-preserved : goal.loop-i-preserved
loop-i-preserved c = (c.put_entry.auto.out ∙ c.loop-i.invariant.0, end-turn _ _ c.loop-i.i c.loop-i.invariant.1 c.part_after-size.ensures, header-turn _ _ _ c.loop-i.i (omega (arith, header-fits _ _ _ c.requires.0, c.put_word.auto.out)) c.loop-i.invariant.2 c.part_after-size.ensures c.is_present_after-there.ensures c.loop-i.invariant.1 c.put_entry.ensures)

pub shape_of-out : goal.shape_of-out
shape_of-out c = c.loop-i.invariant.0 ∙ c.put_word.auto.out

pub returns : goal.returns
returns c = header-ends _ _ _ c.loop-i.i (omega arith) c.put_word.ensures c.loop-i.invariant.2
