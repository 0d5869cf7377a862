-- `set_entries::list_file` meets its contract.
use mathlib.Core.Path.{sym, ◌∙◌}
use native.Mathlib.Omega.{arith}
use lib.Seq.{length-take-le}
use Rattle.gate_marks.proofs.Rooms.{width_is, room-is, room_most}
use Rattle.set_entries.proofs.Laws.{few-fields, none-listed, all_listed}
use Rattle.set_entries.proofs.list_file.Goals as goal

pub slice_bounds-read_own-end : goal.slice_bounds-read_own-end
slice_bounds-read_own-end c = omega (arith, c.room_of-room.ensures, room_most c.args.forms.now c.args.fields.now c.args.k, c.requires.0, c.requires.1)

pub slice_bounds-read_own-end-2 : goal.slice_bounds-read_own-end-2
slice_bounds-read_own-end-2 c = sym (length-take-le _ c.args.work.now (omega (arith, c.room_of-room.ensures, room_most c.args.forms.now c.args.fields.now c.args.k, c.requires.0, c.requires.1)))

pub returns-then-read-ne0 : goal.returns-then-read-ne0
returns-then-read-ne0 c = let whole = none-listed _ _ _ _ _ c.is_there-there.ensures c.part_there-s.ensures _ (c.room_of-room.ensures ∙ room-is c.args.forms.now c.args.fields.now c.args.names.now c.args.fixed.now c.args.k) _ (omega (arith, c.room_of-room.ensures, room_most c.args.forms.now c.args.fields.now c.args.k, c.requires.0, c.requires.1)) _ _ c.read_own-read.ensures.value c.read_own-read.ensures.cells_after c.if-read-ne0.true _ in record { value = whole.0; work_after = whole.1 }

pub returns : goal.returns
returns c = let whole = all_listed _ _ _ _ _ c.is_there-there.ensures c.part_there-s.ensures _ (c.room_of-room.ensures ∙ room-is c.args.forms.now c.args.fields.now c.args.names.now c.args.fixed.now c.args.k) _ (omega (arith, c.room_of-room.ensures, room_most c.args.forms.now c.args.fields.now c.args.k, c.requires.0, c.requires.1)) _ _ c.read_own-read.ensures.value c.read_own-read.ensures.cells_after c.if-read-ne0.false _ (c.width_of-width.ensures ∙ width_is c.args.forms.now c.args.fields.now c.args.names.now c.args.fixed.now c.args.k) _ (omega (arith, c.room_of-room.ensures, room_most c.args.forms.now c.args.fields.now c.args.k, c.requires.0)) c.requires.1 (few-fields _) c.key_field-field.ensures c.list_table.ensures.value c.list_table.ensures.work_after in record { value = whole.0; work_after = whole.1 }
