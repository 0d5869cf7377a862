-- `gate_marks::fill_starts` meets its contract. The loop's invariant: the starts of the files up to this one are in the
-- list, and the cells before it are within the limit.
-- Assumes nothing.
use Prim.Native.Nat.{◌+◌, ◌<◌}
use mathlib.Core.Path.{refl, ◌∙◌}
use native.Mathlib.Omega.{arith}
use lib.ListN.{length-set}
use Rattle.gate_marks.specs.Code.{rooms_in}
use Rattle.gate_marks.proofs.Rooms.{rooms-next, rooms-past, unstarted, started, starts_first, starts_more}
use Rattle.gate_marks.proofs.fill_starts.Goals as goal
use Rattle.gate_marks.proofs.fill_starts.Goals.{then-limit-room-via-then-limit-room, then-limit-room-via-else-limit-room+then-limit-room-2}

pub loop-file-init : goal.loop-file-init
unfolding rooms_in
loop-file-init c = (refl, omega arith, refl, starts_first _ c.args.starts.now refl (omega arith))

pub shape_of-starts-then-limit-room : goal.shape_of-starts-then-limit-room
shape_of-starts-then-limit-room c = omega (arith, length-set c.args.starts.now 0 0)

pub returns-then-limit-room : goal.returns-then-limit-room
returns-then-limit-room c =
    let over : c.args.limit < c.loop-file.start + c.room_of-room.result = elim c.then-limit-room.branch [ then-limit-room-via-then-limit-room w ↦ omega arith | then-limit-room-via-else-limit-room+then-limit-room-2 w ↦ omega arith ] in
    let whole = unstarted _ _ _ c.loop-file.starts (rooms-past _ _ _ _ _ _ _ c.loop-file-test.true c.loop-file.invariant.0 c.room_of-room.ensures over) in
    record { value = whole.0; starts = whole.1 }

pub bounds-starts-file : goal.bounds-starts-file
bounds-starts-file c = omega (arith, length-set c.args.starts.now 0 0)

pub loop-file-preserved : goal.loop-file-preserved
loop-file-preserved c = (rooms-next _ _ _ _ _ c.loop-file.invariant.0 c.room_of-room.ensures, omega arith, length-set c.loop-file.starts _ _ ∙ c.loop-file.invariant.2, starts_more _ _ _ c.loop-file.starts c.loop-file.invariant.3 (omega (arith, length-set c.args.starts.now 0 0)) (rooms-next _ _ _ _ _ c.loop-file.invariant.0 c.room_of-room.ensures))

pub shape_of-starts : goal.shape_of-starts
shape_of-starts c = omega (arith, length-set c.args.starts.now 0 0)

pub returns : goal.returns
returns c = let whole = started _ _ _ c.loop-file.starts _ _ (omega arith) c.loop-file.invariant.0 c.loop-file.invariant.1 c.loop-file.invariant.3 in record { value = whole.0; starts = whole.1 }
