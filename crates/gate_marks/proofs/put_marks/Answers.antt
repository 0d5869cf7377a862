-- `gate_marks::put_marks` meets its contract. The loop's invariant: the first m marks are the new ones and the rest as they
-- were.
-- Assumes nothing.
use native.Mathlib.Omega.{arith}
use Rattle.mark_numbers.proofs.Laws.{lists-long, putting-starts, putting-puts, putting-keeps, putting-ends}
use Rattle.gate_marks.proofs.Marks.{put-found, put-handed}
use Rattle.gate_marks.proofs.put_marks.Goals as goal
use Rattle.gate_marks.proofs.put_marks.Goals.{then-is_touched, else-is_touched}

pub loop-m-init : goal.loop-m-init
loop-m-init c = putting-starts _ _

pub loop-m-preserved : goal.loop-m-preserved
loop-m-preserved c =
    elim c.if-is_touched.branch [
      | then-is_touched w ↦
          rw (w.kinds-is, w.places-is, w.companions-is)
          (putting-puts _ _ c.loop-m.invariant _ (lists-long _ _ c.requires) (omega (arith, c.rule_count.ensures)) _ (put-found _ _ _ _ _ _ c.is_touched.ensures w.if-is_touched.true _ w.mark_at-mark.ensures) w.put_mark.ensures)
      | else-is_touched w ↦
          rw (w.kinds-is, w.places-is, w.companions-is)
          (putting-keeps _ _ c.loop-m.invariant _ (lists-long _ _ c.requires) (omega (arith, c.rule_count.ensures)) (put-handed _ _ _ _ _ _ c.is_touched.ensures w.if-is_touched.false))
    ]

pub shape_of-kinds : goal.shape_of-kinds
shape_of-kinds c = c.loop-m.invariant.kinds-put.long

pub shape_of-places : goal.shape_of-places
shape_of-places c = c.loop-m.invariant.places-put.long

pub shape_of-companions : goal.shape_of-companions
shape_of-companions c = c.loop-m.invariant.companions-put.long

pub returns : goal.returns
returns c = putting-ends _ _ c.loop-m.invariant _ (lists-long _ _ c.requires) (omega (arith, c.rule_count.ensures))
