-- The cases of order 8's readings as one statement over their list each: the definitions answer what is stated, by computation.
-- Assumes nothing.
use Prim.Native.Nat.{ℕ}
use mathlib.Core.Path.{◌≡◌, refl}
use mathlib.Core.List.{[], ◌∷◌, map}
use Rattle.table_file.proofs.Opens.{open-files}
use Rattle.rules.proofs.Opens.{open-rules}
use Rattle.rule_reason.proofs.Opens.{open-reasons}
use Rattle.baseline_rules.proofs.Opens.{open-baseline-rows}
use Rattle.bundle_bytes.specs.Pieces.{piece_start}
use Rattle.bundle_layout.specs.Bundle.{header_size}
use Rattle.parts.specs.Files.{bytes_of}
use Rattle.gate_marks.specs.Gate.{gate_of, mark_reads}
use Rattle.gate_marks.specs.Marks.{mark_read}
use Rattle.reason.specs.Reason.{value_start, value_length, shown_of, broken_by, is_readable, lowest_of, unread_of, told_of}
use Rattle.schedule.specs.Schedule.{due, free, expected_files}
use Rattle.baseline.specs.Baseline.{baseline}
use Rattle.reason_meaning.specs.Cases.{file_in, reading, table_here, kind_here, start_here, mark_here, told, broken}
use Rattle.baseline_meaning.specs.Cases.{data_with, five_with, no_hours, Case, cases, touched_from, Told, reasons}

pub baseline-cases : map (λ (c : Case). map (mark_here baseline c.files) c.marks) cases ≡ map (λ (c : Case). c.stated) cases
unfolding open-files open-rules open-baseline-rows gate_of due free expected_files baseline bytes_of mark_read file_in reading table_here kind_here mark_here data_with five_with no_hours cases
baseline-cases = refl

pub baseline-reasons : map (λ (c : Told). told baseline c.files c.mark) reasons ≡ map (λ (c : Told). c.stated) reasons
unfolding open-files open-rules open-reasons open-baseline-rows gate_of due free expected_files baseline bytes_of piece_start header_size mark_read value_start value_length shown_of broken_by is_readable lowest_of unread_of told_of file_in reading table_here kind_here start_here mark_here told broken data_with five_with no_hours reasons
baseline-reasons = refl

-- 8.6: file 10 touches 81 to 83 as well, file 19 touches 84
pub touched-marks : map (λ (file : ℕ). touched_from file 85 0) (10 ∷ 19 ∷ []) ≡ (10 ∷ 26 ∷ 51 ∷ 52 ∷ 73 ∷ 75 ∷ 81 ∷ 82 ∷ 83 ∷ []) ∷ (19 ∷ 35 ∷ 63 ∷ 64 ∷ 84 ∷ []) ∷ []
unfolding open-rules open-baseline-rows gate_of due free expected_files baseline mark_reads touched_from
touched-marks = refl
