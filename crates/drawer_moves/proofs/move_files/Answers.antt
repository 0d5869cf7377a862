-- `drawer_moves::move_files` meets its contract.
use native.Mathlib.Omega.{arith}
use Rattle.drawer_moves.proofs.Moves.{moves-start, move-fits, moves-turn, moves-end}
use Rattle.drawer_layout.proofs.Laws.{laid}
use Rattle.bundle_layout.specs.Bundle.{header_size}
use Rattle.drawer_moves.proofs.move_files.Goals as goal

-- src/lib.rt:67:5
pub loop-i-init : goal.loop-i-init
unfolding header_size
loop-i-init c = moves-start 20 _ _ _ (laid 20 _ _ _ c.requires) _ c.next_file-i.ensures

-- src/lib.rt:70:9
pub move_part-requires : goal.move_part-requires
move_part-requires c = let f = move-fits 20 _ _ _ (laid 20 _ _ _ c.requires) _ _ _ _ c.loop-i.invariant c.loop-i-test.true c.number_in-from.ensures.0 c.number_in-n.ensures.0 in (f.0, f.1)

-- src/lib.rt:67:5
pub loop-i-smaller : goal.loop-i-smaller
loop-i-smaller c = let f = move-fits 20 _ _ _ (laid 20 _ _ _ c.requires) _ _ _ _ c.loop-i.invariant c.loop-i-test.true c.number_in-from.ensures.0 c.number_in-n.ensures.0 in omega (arith, f.2, f.3)

-- src/lib.rt:67:5
pub loop-i-preserved : goal.loop-i-preserved
loop-i-preserved c = moves-turn 20 _ _ _ (laid 20 _ _ _ c.requires) _ _ _ _ c.loop-i.invariant c.loop-i-test.true c.number_in-from.ensures.0 c.number_in-n.ensures.0 c.move_part.ensures c.move_part.auto.d c.next_file-i-in-loop-i.ensures

-- src/lib.rt:60:1
pub returns : goal.returns
returns c = moves-end 20 _ _ _ (laid 20 _ _ _ c.requires) _ _ _ _ c.loop-i.invariant c.loop-i-test.false
