-- `reason::reason_files` meets its contract: with lists of as many marks as there are, unless a test fails before.
-- Assumes nothing.
use mathlib.Core.Path.{refl}
use native.Mathlib.Omega.{arith}
use Rattle.reason.proofs.Told.{front, fronts, whole-no-mark, whole-too-many, whole-told}
use Rattle.reason.proofs.reason_files.Goals as goal

pub returns-then-marks-mark : goal.returns-then-marks-mark
returns-then-marks-mark c = let whole = whole-no-mark _ _ _ _ _ _ _ _ _ _ _ c.rule_count.ensures c.if-marks-mark.true in record { value = whole.0; work_after = whole.1 }

pub returns-then-marks-gt128 : goal.returns-then-marks-gt128
returns-then-marks-gt128 c = let whole = whole-too-many _ _ _ _ _ _ _ _ _ _ _ c.rule_count.ensures c.if-marks-mark.false c.if-marks-gt128.true in record { value = whole.0; work_after = whole.1 }

pub slice_bounds-told_judged-end : goal.slice_bounds-told_judged-end
slice_bounds-told_judged-end c = front _ _ refl c.if-marks-gt128.false

pub slice_bounds-told_judged-end-2 : goal.slice_bounds-told_judged-end-2
slice_bounds-told_judged-end-2 c = front _ _ refl c.if-marks-gt128.false

pub slice_bounds-told_judged-end-3 : goal.slice_bounds-told_judged-end-3
slice_bounds-told_judged-end-3 c = front _ _ refl c.if-marks-gt128.false

pub told_judged-requires : goal.told_judged-requires
told_judged-requires c = (fronts _ _ _ c.rule_count.ensures c.if-marks-gt128.false _ _ _ refl refl refl, omega (arith, c.rule_count.ensures))

pub returns : goal.returns
returns c = let whole = whole-told _ _ _ _ _ _ _ _ _ _ _ c.rule_count.ensures c.if-marks-mark.false c.if-marks-gt128.false (c.told_judged.ensures.value, c.told_judged.ensures.work_after) in record { value = whole.0; work_after = whole.1 }
