-- The cases of order 6's readings as one statement over their list, and the refusals: the definitions tell what is stated, by
-- computation.
-- Assumes nothing.
use mathlib.Core.Path.{◌≡◌, refl}
use mathlib.Core.List.{[], map}
use Rattle.table_file.proofs.Opens.{open-files}
use Rattle.rules.proofs.Opens.{open-rules}
use Rattle.rule_reason.proofs.Opens.{open-reasons}
use Rattle.schedule_rules.proofs.Opens.{open-rows}
use Rattle.bundle_bytes.specs.Pieces.{joined, piece_start}
use Rattle.bundle_bytes.specs.Words.{word_at, word_of}
use Rattle.bundle_layout.specs.Bundle.{header_size, offset_at, length_at, is_omitted, end_of, stands_right, laid_out_from, laid_out, bundle_fault, pieces_of, header_pair, header_of, bundle_of}
use Rattle.bundle_layout.specs.Put.{empty_bundle}
use Rattle.parts.specs.Files.{is_present, bytes_of}
use Rattle.reason_answer.specs.declared.Reason.TheVariants.{Refused}
use Rattle.gate_marks.specs.Gate.{gate_of, marks_of}
use Rattle.gate_marks.specs.Marks.{mark_read}
use Rattle.reason.specs.Reason.{value_start, value_length, shown_of, broken_by, is_readable, lowest_of, unread_of, told_of}
use Rattle.gate_calls.specs.Reasons.{reason_of}
use Rattle.schedule.specs.Schedule.{due, free, expected_files, schedule}
use Rattle.reason_meaning.specs.Cases.{file_in, reading, table_here, kind_here, start_here, mark_here, told, Case, broken, missing, cases}

pub reason-cases : map (λ (c : Case). told schedule c.files c.mark) cases ≡ map (λ (c : Case). c.stated) cases
unfolding open-files open-rules open-reasons open-rows gate_of due free expected_files schedule bytes_of piece_start header_size mark_read value_start value_length shown_of broken_by is_readable lowest_of unread_of told_of file_in reading table_here kind_here start_here mark_here told broken missing cases
reason-cases = refl

-- 6.13: "a mark number over 80 is 7, tested after 1 to 3"
pub refused-first : reason_of schedule [] 99 ≡ Refused 1
unfolding reason_of bundle_fault header_size gate_of expected_files schedule
refused-first = refl

pub refused-mark : reason_of schedule (empty_bundle 20) 81 ≡ Refused 7
unfolding reason_of bundle_fault header_size offset_at length_at is_omitted end_of stands_right laid_out_from laid_out word_at word_of joined pieces_of header_pair header_of bundle_of empty_bundle piece_start is_present bytes_of marks_of gate_of expected_files schedule open-rows
refused-mark = refl
