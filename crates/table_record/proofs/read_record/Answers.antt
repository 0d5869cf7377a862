-- `table_record::read_record` meets its contract: room, the cells cleared, and what stands behind the opening brace, in turn.
use mathlib.Core.Path.{sym, ◌∙◌}
use native.Mathlib.Omega.{arith}
use Prim.Native.Nat.{◌+◌, ◌*◌, ◌^◌, ◌≤◌, ◌<◌}
use lib.ListN.{length}
use Rattle.table_record.proofs.Laws.{both, room-all, first_more, first_ends, record-none, record-more, record-ends, record-neither}
use Rattle.table_record.proofs.read_record.Goals as goal
use Rattle.table_record.proofs.read_record.Goals.{Else-not-has_room}

pub returns-then-not-has_room : goal.returns-then-not-has_room
returns-then-not-has_room c = record { value = (both _ _ (record-none _ _ _ _ _ _ _ _ c.has_room.ensures c.if-not-has_room.true)).0; cells_after = (both _ _ (record-none _ _ _ _ _ _ _ _ c.has_room.ensures c.if-not-has_room.true)).1 }

-- what room is, at every place behind its test
room : (c : Else-not-has_room) → (length c.args.s.now < 2 ^ 32) × ((c.args.count ≤ 64) × (c.args.base + 2 * c.args.count ≤ length c.args.cells.now))
room c = room-all _ _ _ _ (sym c.has_room.ensures ∙ c.if-not-has_room.false)

pub overflow_mul-count : goal.overflow_mul-count
overflow_mul-count c = omega (arith, room (goal.at.overflow_mul-count c).Else-not-has_room)

pub clear-requires : goal.clear-requires
clear-requires c = (room (goal.at.clear-requires c).Else-not-has_room).1.1

pub read_pairs-requires : goal.read_pairs-requires
read_pairs-requires c = record { all_inside = omega (arith, room (goal.at.read_pairs-requires c).Else-not-has_room, c.clear.auto.cells, first_more _ _ _ c.first_in.ensures _ c.in-More.is); hinted_names_apart = c.requires.hinted_names_apart; required_of_rows = c.requires.required_of_rows (room (goal.at.read_pairs-requires c).Else-not-has_room).1.0 }

pub close_at-requires : goal.close_at-requires
close_at-requires c = record { at_bound = omega (arith, room (goal.at.close_at-requires c).Else-not-has_room, c.clear.auto.cells, first_ends _ _ _ c.first_in.ensures _ c.in-Ends.is); required_of_rows = c.requires.required_of_rows (room (goal.at.close_at-requires c).Else-not-has_room).1.0 }

pub shape_of-cells-in-More : goal.shape_of-cells-in-More
shape_of-cells-in-More c = c.read_pairs.auto.cells ∙ c.clear.auto.cells

pub returns-in-More : goal.returns-in-More
returns-in-More c = record { value = (both _ _ (record-more _ _ _ _ _ _ _ _ c.has_room.ensures c.if-not-has_room.false _ c.clear.ensures _ c.first_in.ensures _ _ c.in-More.is c.read_pairs.ensures)).0; cells_after = (both _ _ (record-more _ _ _ _ _ _ _ _ c.has_room.ensures c.if-not-has_room.false _ c.clear.ensures _ c.first_in.ensures _ _ c.in-More.is c.read_pairs.ensures)).1 }

pub shape_of-cells-in-Ends : goal.shape_of-cells-in-Ends
shape_of-cells-in-Ends c = c.clear.auto.cells

pub returns-in-Ends : goal.returns-in-Ends
returns-in-Ends c = record { value = (both _ _ (record-ends _ _ _ _ _ _ _ _ c.has_room.ensures c.if-not-has_room.false _ c.clear.ensures _ c.first_in.ensures _ _ c.in-Ends.is c.close_at.ensures)).0; cells_after = (both _ _ (record-ends _ _ _ _ _ _ _ _ c.has_room.ensures c.if-not-has_room.false _ c.clear.ensures _ c.first_in.ensures _ _ c.in-Ends.is c.close_at.ensures)).1 }

pub shape_of-cells-in-Neither : goal.shape_of-cells-in-Neither
shape_of-cells-in-Neither c = c.clear.auto.cells

pub returns-in-Neither : goal.returns-in-Neither
returns-in-Neither c = record { value = (both _ _ (record-neither _ _ _ _ _ _ _ _ c.has_room.ensures c.if-not-has_room.false _ c.clear.ensures _ c.first_in.ensures _ c.in-Neither.is)).0; cells_after = (both _ _ (record-neither _ _ _ _ _ _ _ _ c.has_room.ensures c.if-not-has_room.false _ c.clear.ensures _ c.first_in.ensures _ c.in-Neither.is)).1 }
