-- `gate_plain::rule_plain` meets its contract: the rule over its two files as they were just read.
use Prim.Native.Nat.{◌-◌}
use mathlib.Core.Path.{sym, ◌∙◌}
use native.Mathlib.Omega.{arith}
use lib.Seq.{length-take-le}
use Rattle.rule_shape.specs.Rule.{rule_from}
use Rattle.bundle_layout.specs.Bundle.{file_at}
use Rattle.gate_marks.specs.Gate.{gate_from, expected_in}
use Rattle.gate_marks.proofs.Rooms.{width_is, room_most}
use Rattle.gate_plain.proofs.Laws.{front_read, rule-again, rule-plain}
use borrow.Author.Rules.{rules}
use Rattle.gate_plain.proofs.rule_plain.Goals as goal

pub slice_bounds-plain_break-end : goal.slice_bounds-plain_break-end
slice_bounds-plain_break-end c = omega (arith, c.room_of-room.ensures, room_most c.args.forms.now c.args.fields.now c.first_file-first.result, c.requires.0, c.read_plain-read.auto)

pub slice_bounds-plain_break-end-2 : goal.slice_bounds-plain_break-end-2
slice_bounds-plain_break-end-2 c = sym (length-take-le _ _ (omega (arith, c.room_of-room.ensures, room_most c.args.forms.now c.args.fields.now c.first_file-first.result, c.requires.0, c.read_plain-read.auto)))

pub slice_bounds-plain_break-end-3 : goal.slice_bounds-plain_break-end-3
slice_bounds-plain_break-end-3 c = omega (arith, c.room_of-u_room.ensures, room_most c.args.forms.now c.args.fields.now c.second_file-second.result, c.requires.1, c.read_plain-u_read.auto)

pub slice_bounds-plain_break-end-4 : goal.slice_bounds-plain_break-end-4
slice_bounds-plain_break-end-4 c = sym (length-take-le _ _ (omega (arith, c.room_of-u_room.ensures, room_most c.args.forms.now c.args.fields.now c.second_file-second.result, c.requires.1, c.read_plain-u_read.auto)))

pub shape_of-cells : goal.shape_of-cells
shape_of-cells c = omega (arith, c.read_plain-read.auto)

pub shape_of-u_cells : goal.shape_of-u_cells
shape_of-u_cells c = omega (arith, c.read_plain-u_read.auto)

pub returns : goal.returns
unfolding gate_from
returns c = rule-plain (gate_from c.args.forms.now c.args.fields.now c.args.names.now c.args.fixed.now c.args.rules.now c.args.values.now c.args.texts.now) (rule_from c.args.rules.now c.args.i) (file_at c.args.bundle.now) c.first_file-first.ensures c.second_file-second.ensures
    (rule-again c.args.values.now c.args.texts.now (rule_from c.args.rules.now c.args.i) (expected_in c.args.forms.now c.args.fields.now c.args.names.now c.args.fixed.now c.first_file-first.result) (expected_in c.args.forms.now c.args.fields.now c.args.names.now c.args.fixed.now c.second_file-second.result) (file_at c.args.bundle.now c.first_file-first.result) (file_at c.args.bundle.now c.second_file-second.result) c.read_plain-read.ensures.value c.read_plain-u_read.ensures.value c.part_at.ensures c.part_at-2.ensures (front_read _ c.room_of-room.ensures c.read_plain-read.ensures.cells_after) (front_read _ c.room_of-u_room.ensures c.read_plain-u_read.ensures.cells_after) (c.width_of.ensures ∙ width_is c.args.forms.now c.args.fields.now c.args.names.now c.args.fixed.now c.first_file-first.result) (c.width_of-2.ensures ∙ width_is c.args.forms.now c.args.fields.now c.args.names.now c.args.fixed.now c.second_file-second.result) c.is_judged-judged.ensures c.plain_break-found.ensures c.mark_of.ensures)
