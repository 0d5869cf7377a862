-- `bundle::put_files` meets its contract: behind the header's place one file more with each turn.
use mathlib.Core.Path.{refl, ◌∙◌}
use native.Mathlib.Omega.{arith}
use Rattle.bundle_layout.specs.Change.{files_after}
use Rattle.bundle.proofs.Laws.{header-fits, file-fits, end-begins, end-turn, files-begin, files-turn, files-end}
use Rattle.bundle.proofs.put_files.Goals as goal

pub overflow_mul-end : goal.overflow_mul-end
overflow_mul-end c = omega (arith, header-fits _ _ 1048576 c.requires.1)

pub overflow_add-end : goal.overflow_add-end
overflow_add-end c = omega (arith, header-fits _ _ 1048576 c.requires.1)

pub loop-i-init : goal.loop-i-init
loop-i-init c = (refl, end-begins _ _, files-begin _ (files_after _ _ _) _)

pub overflow_add-end-in-loop-i : goal.overflow_add-end-in-loop-i
overflow_add-end-in-loop-i c = omega (arith, file-fits _ _ 1048576 c.loop-i.i c.requires.1 (omega arith) c.loop-i.invariant.1 c.part_after-file.ensures)

pub loop-i-preserved : goal.loop-i-preserved
loop-i-preserved c = (c.put_part.auto.out ∙ c.loop-i.invariant.0, end-turn _ _ c.loop-i.i c.loop-i.invariant.1 c.part_after-file.ensures, files-turn _ _ _ c.loop-i.i (omega arith) c.requires.0 c.loop-i.invariant.2 c.part_after-file.ensures c.loop-i.invariant.1 c.put_part.ensures)

pub shape_of-out : goal.shape_of-out
shape_of-out c = c.loop-i.invariant.0

pub returns : goal.returns
returns c = files-end _ _ _ c.loop-i.i (omega arith) c.loop-i.invariant.2
