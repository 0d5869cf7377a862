-- `report::report` meets its contract: its tests decide whether the text is written, and then there is room for it.
-- Assumes nothing.
use native.Mathlib.Omega.{arith}
use Rattle.std.proofs.Common.{◌≡◌, ap, not, [], length}
use Rattle.report.specs.Report.{text_in}
use Rattle.json_bytes.specs.Ascii.{codes}
use Rattle.mark_numbers.specs.Marks.{marks_in}
use Rattle.mark_numbers.proofs.Laws.{lists-wrong, lists-right}
use Rattle.report.proofs.Lengths.{report-length}
use Rattle.report.proofs.Written.{text-unequal, text-many, text-short, text-whole, Due, nothing, board-whole, refusal-whole}
use Rattle.report.proofs.report.Goals as goal
use Rattle.report.proofs.report.Goals.{Else-out-kinds, then-not-have_length-via-then-not-have_length, then-not-have_length-via-else-not-have_length+then-kinds-gt999, then-not-have_length-via-else-not-have_length+else-kinds-gt999+then-out-kinds}

-- one of the three tests fails
pub returns-then-not-have_length : goal.returns-then-not-have_length
returns-then-not-have_length c =
    let lists = marks_in c.args.kinds.now c.args.places.now c.args.companions.now in
    let e : text_in c.args.refusal lists (length c.args.out.now) ≡ [] = elim c.then-not-have_length.branch [
      | then-not-have_length-via-then-not-have_length w ↦ text-unequal _ lists _ (lists-wrong _ _ c.have_length.ensures (ap not w.if-not-have_length.true))
      | then-not-have_length-via-else-not-have_length+then-kinds-gt999 w ↦ text-many _ lists _ (lists-right _ _ c.have_length.ensures (ap not w.if-not-have_length.false)) w.if-kinds-gt999.true
      | then-not-have_length-via-else-not-have_length+else-kinds-gt999+then-out-kinds w ↦ text-short _ lists _ (lists-right _ _ c.have_length.ensures (ap not w.if-not-have_length.false)) w.if-kinds-gt999.false w.if-out-kinds.true
    ] in
    let whole = nothing _ _ _ e in
    record { value = whole.0; out_after = whole.1.0; upper_bound = whole.1.1 }

-- behind all three tests
due : (c : Else-out-kinds) → Due c.args.refusal (marks_in c.args.kinds.now c.args.places.now c.args.companions.now) c.args.out.now
due c = (
  text-whole _ _ _ (lists-right _ _ c.have_length.ensures (ap not c.if-not-have_length.false)) c.if-kinds-gt999.false c.if-out-kinds.false,
  omega (
    arith,
    report-length (marks_in c.args.kinds.now c.args.places.now c.args.companions.now) c.shared_slice_known-1.given c.shared_slice_known-2-1.given c.shared_slice_known-3-1.given c.if-kinds-gt999.false c.args.refusal (omega arith),
  ),
)

pub returns-then-refusal-eq0 : goal.returns-then-refusal-eq0
returns-then-refusal-eq0 c = let whole = board-whole _ _ _ (due (goal.at.returns-then-refusal-eq0 c).Else-out-kinds) c.if-refusal-eq0.true c.put_board.ensures in record { value = whole.0; out_after = whole.1.0; upper_bound = whole.1.1 }

pub returns : goal.returns
unfolding codes
returns c = let whole = refusal-whole _ _ _ (due (goal.at.returns c).Else-out-kinds) c.if-refusal-eq0.false c.put_counted.ensures in record { value = whole.0; out_after = whole.1.0; upper_bound = whole.1.1 }
