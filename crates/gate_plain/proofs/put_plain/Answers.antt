-- `gate_plain::put_plain` meets its contract. The loop's invariant: the first m marks are those of the files, and the rest as they were.
use Prim.Native.Nat.{◌+◌, ◌-◌, ◌/◌, ◌<◌}
use mathlib.Core.Path.{refl}
use native.Mathlib.Omega.{arith}
use lib.ListN.{length}
use Rattle.mark_numbers.proofs.Laws.{lists-long, putting-starts, putting-puts, putting-ends}
use Rattle.gate_marks.specs.Gate.{gate_from, marks_of}
use Rattle.gate_marks.specs.Marks.{full_marks}
use Rattle.gate_plain.proofs.put_plain.Goals as goal
use Rattle.gate_plain.proofs.put_plain.Goals.{After-rule_count}

-- so many marks that their number fits
marks-small : (c : After-rule_count) → length c.args.forms.now / 2 + c.rule_count.result < 2305843009213693952
marks-small c = omega (arith, c.rule_count.ensures)

pub loop-m-init : goal.loop-m-init
loop-m-init c = (putting-starts _ _, omega arith, refl, refl)

pub mark_plain-mark-requires : goal.mark_plain-mark-requires
mark_plain-mark-requires c = (omega (arith, c.requires.0, c.loop-m.invariant.2), omega (arith, c.requires.1, c.loop-m.invariant.3))

pub overflow_add-m : goal.overflow_add-m
overflow_add-m c = omega (arith, marks-small (goal.at.overflow_add-m c).After-rule_count)

pub loop-m-preserved : goal.loop-m-preserved
loop-m-preserved c = (putting-puts _ _ c.loop-m.invariant.0 _ (lists-long _ _ c.requires.2) (omega (arith, c.rule_count.ensures)) _ c.mark_plain-mark.ensures c.put_mark.ensures, omega arith, omega (arith, c.mark_plain-mark.auto), omega (arith, c.mark_plain-mark.auto))

pub shape_of-cells : goal.shape_of-cells
shape_of-cells c = omega (arith, c.loop-m.invariant)

pub shape_of-u_cells : goal.shape_of-u_cells
shape_of-u_cells c = omega (arith, c.loop-m.invariant)

pub shape_of-kinds : goal.shape_of-kinds
shape_of-kinds c = c.loop-m.invariant.0.kinds-put.long

pub shape_of-places : goal.shape_of-places
shape_of-places c = c.loop-m.invariant.0.places-put.long

pub shape_of-companions : goal.shape_of-companions
shape_of-companions c = c.loop-m.invariant.0.companions-put.long

pub returns : goal.returns
unfolding full_marks marks_of gate_from
returns c = putting-ends _ _ c.loop-m.invariant.0 _ (lists-long _ _ c.requires.2) (omega (arith, c.rule_count.ensures))
