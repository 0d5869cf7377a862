-- `drawer_bundles::put_files` meets its contract: behind the header's place one file more with each turn.
-- Assumes nothing.
use mathlib.Core.Path.{refl, ◌∙◌}
use native.Mathlib.Omega.{arith}
use Rattle.bundle_layout.specs.Bundle.{file_at}
use Rattle.bundle.proofs.Laws.{file-fits, end-begins, end-turn, files-begin, files-turn, files-end}
use Rattle.drawer_bundles.proofs.put_files.Goals as goal

pub loop-i-init : goal.loop-i-init
loop-i-init c = (refl, end-begins 20 _, files-begin 20 (file_at _) _)

pub overflow_add-end : goal.overflow_add-end
overflow_add-end c = omega (arith, file-fits 20 _ 1048576 c.loop-i.i c.requires.1 c.loop-i-test.true c.loop-i.invariant.1 c.part_at-file.ensures)

pub loop-i-preserved : goal.loop-i-preserved
loop-i-preserved c = (c.put_part.auto.out ∙ c.loop-i.invariant.0, end-turn 20 _ c.loop-i.i c.loop-i.invariant.1 c.part_at-file.ensures, files-turn 20 _ _ c.loop-i.i c.loop-i-test.true c.requires.0 c.loop-i.invariant.2 c.part_at-file.ensures c.loop-i.invariant.1 c.put_part.ensures)

pub shape_of-out : goal.shape_of-out
shape_of-out c = c.loop-i.invariant.0

pub returns : goal.returns
returns c = files-end 20 _ _ c.loop-i.i (omega arith) c.loop-i.invariant.2
