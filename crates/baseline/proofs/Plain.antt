-- The profile adds marks and leaves the others as they are: marks 0 to 80 are the plain gate's, of a full judgement, after a change
-- from marks that agree, and in what is told of them.
-- Assumes nothing.
use Prim.Native.Nat.{ℕ, ◌-◌, ◌<◌}
use mathlib.Core.Path.{◌≡◌, sym, ap, ◌∙◌}
use mathlib.Core.Bool.{cond}
use native.Mathlib.Omega.{arith}
use lib.Dec.{ltb, eqb}
use Rattle.parts.specs.Files.{File}
use Rattle.mark_numbers.specs.declared.Mark.{Mark}
use Rattle.mark_numbers.specs.Marks.{Marks, marks_from, mark_in}
use Rattle.mark_numbers.proofs.Laws.{mark-of-marks}
use Rattle.rule_shape.specs.declared.Rule.{Rule}
use Rattle.rule_shape.specs.Rule.{reads, first_file_of}
use Rattle.gate_marks.specs.Gate.{gate_of, marks_of, rule_of_mark, mark_reads, reads_file}
use Rattle.gate_marks.specs.Marks.{file_mark, table_of, rule_mark, rule_mark_at, mark_at, full_marks}
use Rattle.reason.specs.Reason.{told_of, reason_at}
use Rattle.gate_calls.specs.Calls.{changed_marks}
use Rattle.schedule.specs.Schedule.{schedule}
use Rattle.schedule.proofs.Laws.{files-are as schedule-files, marks-are as schedule-marks}
use Rattle.baseline_rules.proofs.Facts.{rule-kept}
use Rattle.baseline.specs.Baseline.{baseline}
use Rattle.baseline.proofs.Laws.{files-are, marks-are}

module _ (m : ℕ) (l : m < 81) where
  rule-same : rule_of_mark baseline m ≡ rule_of_mark schedule m
  unfolding baseline schedule gate_of
  rule-same =
      ap (λ (n : ℕ). baseline.rule (m - n)) files-are
      ∙ rule-kept _ (m - 20) (omega arith)
      ∙ sym (ap (λ (n : ℕ). schedule.rule (m - n)) schedule-files)

  -- each mark is the same function of the files
  pub mark-same : (files : ℕ → File) → mark_at baseline m files ≡ mark_at schedule m files
  unfolding mark_at rule_mark_at rule_mark baseline schedule gate_of
  mark-same files =
      ap (λ (r : Rule). cond (ltb m schedule.files) (file_mark (schedule.expected m) (files m)) (rule_mark_at schedule r files)) rule-same

  -- and reads the same files
  pub reads_same : (k : ℕ) → reads_file baseline m k ≡ reads_file schedule m k
  unfolding mark_reads baseline schedule gate_of
  reads_same k = ap (λ (r : Rule). cond (ltb m schedule.files) (eqb m k) (reads r k)) rule-same

  -- ---- of a full judgement
  in-baseline : (f : ℕ → Mark) → mark_in (marks_from (marks_of baseline) f) m ≡ f m
  in-baseline f = mark-of-marks (marks_of baseline) f m (rw marks-are (omega arith))

  in-schedule : (f : ℕ → Mark) → mark_in (marks_from (marks_of schedule) f) m ≡ f m
  in-schedule f = mark-of-marks (marks_of schedule) f m (rw schedule-marks l)

  pub full-same : (files : ℕ → File) → mark_in (full_marks baseline files) m ≡ mark_in (full_marks schedule files) m
  unfolding full_marks
  full-same files = in-baseline _ ∙ mark-same files ∙ sym (in-schedule _)

  -- ---- of a change of file k
  pub change-same : (k : ℕ) (files : ℕ → File) (handed plain : Marks) → mark_in handed m ≡ mark_in plain m → mark_in (changed_marks baseline k files handed) m ≡ mark_in (changed_marks schedule k files plain) m
  unfolding changed_marks
  change-same k files handed plain e =
      let kept : cond (reads_file baseline m k) (mark_at baseline m files) (mark_in handed m) ≡ cond (reads_file schedule m k) (mark_at schedule m files) (mark_in plain m) = rw (reads_same k, mark-same files, e) in
      in-baseline _ ∙ kept ∙ sym (in-schedule _)

  -- ---- of what is told of the mark
  pub told_same : (offset : ℕ → ℕ) (files : ℕ → File) → reason_at baseline offset files m ≡ reason_at schedule offset files m
  unfolding reason_at baseline schedule gate_of
  told_same offset files = told rule-same (mark-same files)
    where
      told : {r q : Rule} {x y : Mark} → r ≡ q → x ≡ y
          → told_of schedule.files m r (offset (first_file_of r)) (λ k. (file_mark (schedule.expected k) (files k)).kind) (table_of (schedule.expected (first_file_of r)) (files (first_file_of r))) x
          ≡ told_of schedule.files m q (offset (first_file_of q)) (λ k. (file_mark (schedule.expected k) (files k)).kind) (table_of (schedule.expected (first_file_of q)) (files (first_file_of q))) y
      told e f = rw (e, f)
