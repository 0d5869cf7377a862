-- `gate_marks::read_needed` meets its contract. The loop's invariant: the needed ones of the files before k have been read,
-- and the workspace is as that leaves it.
-- Assumes nothing.
use Prim.Native.Nat.{◌-◌}
use mathlib.Core.Path.{sym, ◌∙◌}
use native.Mathlib.Omega.{arith}
use Rattle.mark_numbers.proofs.Laws.{lists-long}
use Rattle.gate_marks.proofs.Rooms.{starts-order, starts-within}
use Rattle.gate_marks.proofs.Reading.{reading-starts, reading-skips, reading-goes-on, reading-ends}
use Rattle.gate_marks.proofs.read_needed.Goals as goal
use Rattle.gate_marks.proofs.read_needed.Goals.{then-is_needed, else-is_needed}

pub loop-k-init : goal.loop-k-init
loop-k-init c = reading-starts _ _ _ _ _ _ _ (lists-long _ _ c.requires.enough_room.3) c.requires.enough_room.4

pub bounds-starts-k : goal.bounds-starts-k
bounds-starts-k c = omega (arith, c.requires.enough_room.2, c.requires.enough_room.0)

pub bounds-starts-k-then-is_needed : goal.bounds-starts-k-then-is_needed
bounds-starts-k-then-is_needed c = omega (arith, c.requires.enough_room.2, c.requires.enough_room.0)

pub read_one-requires : goal.read_one-requires
read_one-requires c = (starts-order _ _ _ _ c.requires.starts c.loop-k-test.true, starts-within _ _ _ _ c.requires.starts c.loop-k-test.true _ (rw c.loop-k.invariant.work-long c.requires.enough_room.1))

pub loop-k-preserved : goal.loop-k-preserved
loop-k-preserved c =
    elim c.if-is_needed.branch [
      | then-is_needed w ↦
          rw (w.work-is, w.kinds-is, w.places-is, w.companions-is, w.records-is)
          (reading-goes-on _ _ _ _ c.loop-k.invariant c.is_needed.ensures _ _ _ c.loop-k-test.true c.requires.enough_room.0 c.requires.enough_room.1 (c.requires.starts.at _ (omega arith)) (c.requires.starts.at _ (omega arith)) w.if-is_needed.true (w.read_one.ensures.work_after, (w.read_one.ensures.board_after, w.read_one.ensures.records_after)))
      | else-is_needed w ↦
          rw (w.work-is, w.kinds-is, w.places-is, w.companions-is, w.records-is)
          (reading-skips _ _ _ _ c.loop-k.invariant c.is_needed.ensures w.if-is_needed.false)
    ]

pub shape_of-work : goal.shape_of-work
shape_of-work c = c.loop-k.invariant.work-long

pub shape_of-kinds : goal.shape_of-kinds
shape_of-kinds c = c.loop-k.invariant.own-long.kinds-long ∙ sym (lists-long _ _ c.requires.enough_room.3).kinds-long

pub shape_of-places : goal.shape_of-places
shape_of-places c = c.loop-k.invariant.own-long.places-long ∙ sym (lists-long _ _ c.requires.enough_room.3).places-long

pub shape_of-companions : goal.shape_of-companions
shape_of-companions c = c.loop-k.invariant.own-long.companions-long ∙ sym (lists-long _ _ c.requires.enough_room.3).companions-long

pub shape_of-records : goal.shape_of-records
shape_of-records c = c.loop-k.invariant.records-long ∙ sym c.requires.enough_room.4

pub returns : goal.returns
returns c = let whole = reading-ends _ _ _ _ c.loop-k.invariant _ (omega arith) c.is_cleared-cleared.ensures in record { read_to = whole.0; work_after = whole.1 }
