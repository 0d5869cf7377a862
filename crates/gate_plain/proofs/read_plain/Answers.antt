-- `gate_plain::read_plain` meets its contract: over cells that are 0 in front, whatever they held.
use Prim.Native.Nat.{◌-◌}
use mathlib.Core.Path.{sym}
use native.Mathlib.Omega.{arith}
use lib.Seq.{length-take-le}
use Rattle.bundle_layout.specs.Bundle.{file_at}
use Rattle.gate_marks.specs.Gate.{expected_in}
use Rattle.gate_marks.specs.Code.{room_in}
use Rattle.gate_marks.proofs.Rooms.{room-is, room_most}
use Rattle.gate_plain.proofs.Laws.{there-is, read_again}
use Rattle.gate_plain.proofs.read_plain.Goals as goal

pub slice_bounds-read_own-end : goal.slice_bounds-read_own-end
slice_bounds-read_own-end c = omega (arith, c.room_of-room.ensures, room_most c.args.forms.now c.args.fields.now c.args.k, c.requires)

pub slice_bounds-read_own-end-2 : goal.slice_bounds-read_own-end-2
slice_bounds-read_own-end-2 c = sym (length-take-le _ c.args.cells.now (omega (arith, c.room_of-room.ensures, room_most c.args.forms.now c.args.fields.now c.args.k, c.requires)))

pub returns : goal.returns
returns c = let whole = read_again (expected_in c.args.forms.now c.args.fields.now c.args.names.now c.args.fixed.now c.args.k) (file_at c.args.bundle.now c.args.k) (there-is c.args.bundle.now c.args.k c.is_omitted-there.ensures) c.part_at-s.ensures (room_in c.args.forms.now c.args.fields.now c.args.k) c.room_of-room.ensures (room-is c.args.forms.now c.args.fields.now c.args.names.now c.args.fixed.now c.args.k) c.args.cells.now (omega (arith, c.room_of-room.ensures, room_most c.args.forms.now c.args.fields.now c.args.k, c.requires)) c.read_own.ensures.value c.read_own.ensures.cells_after in record { value = whole.0; cells_after = whole.1 }
