-- Document 01's keys, and small sets, computed from the definitions.
-- Assumes nothing.
use Prim.Native.Nat.{ℕ}
use Prim.Native.String.{String}
use mathlib.Core.Path.{◌≡◌, refl}
use mathlib.Core.List.{List, [], ◌∷◌, map}
use Rattle.parts.specs.Files.{Given, bytes_of}
use Rattle.json_bytes.specs.Ascii.{codes}
use Rattle.table_fields.specs.Fields.{tables, fields_of}
use Rattle.table_file.proofs.Opens.{open-files}
use Rattle.schedule_rules.specs.Rules.{no}
use Rattle.schedule_rules.proofs.Opens.{open-rows}
use Rattle.entries.specs.declared.Entry.{Entry}
use Rattle.entries.proofs.Opens.{open-entries}
use Rattle.gate_marks.specs.Gate.{gate_of}
use Rattle.gate_marks.specs.Work.{zeros, width_of, room_for, room_of, read_of}
use Rattle.gate_marks.specs.Marks.{mark_read, file_mark, table_of}
use Rattle.schedule.specs.Schedule.{due, free, expected_files, schedule}
use Rattle.set_entries.specs.Entries.{key_field, file_entries}

abbrev entry : ℕ → ℕ → ℕ → ℕ → Entry
entry start length sum number = record { start = start; length = length; sum = sum; «record» = number }

abbrev of : ℕ → String → List Entry
of file text = file_entries (key_field file) (schedule.expected file) (Given (codes text))

-- start in the file after the quote, length as written, the sum of the decoded key folded, the record from 1; `b[` and `AZ` have
-- one sum, and stand by record
pub three : of 6 "[{\"Name\":\"n\",\"ID\":\"b[\"},{\"ID\":\"\\u0041Z\",\"Name\":\"n\"},{\"ID\":\"C\",\"Name\":\"n\"}]"
    ≡ (entry 59 1 99 3 ∷ entry 19 2 3129 1 ∷ entry 31 7 3129 2 ∷ [])
unfolding open-files open-entries open-rows schedule gate_of expected_files due free fields_of tables zeros width_of room_for room_of read_of mark_read file_mark table_of key_field file_entries bytes_of
three = refl

-- the sum wraps
pub wraps : map (λ (e : Entry). e.sum) (of 6 "[{\"ID\":\"zzzzzzz\",\"Name\":\"n\"}]") ≡ (215481018 ∷ [])
unfolding open-files open-entries open-rows schedule gate_of expected_files due free fields_of tables zeros width_of room_for room_of read_of mark_read file_mark table_of key_field file_entries bytes_of
wraps = refl

-- an unreadable file gives nothing
pub unreadable : of 7 "[" ≡ []
unfolding open-files open-entries open-rows schedule gate_of expected_files due free fields_of tables zeros width_of room_for room_of read_of mark_read file_mark table_of key_field file_entries bytes_of
unreadable = refl

-- of several key fields the first
pub of_two : of 7 "[{\"CalendarID\":\"c\",\"MondayWorkHours\":8},{\"MondayWorkHours\":8,\"Ordinal\":0.0,\"CalendarID\":\"\\u0043\"}]"
    ≡ (entry 16 1 99 1 ∷ entry 89 6 99 2 ∷ [])
unfolding open-files open-entries open-rows schedule gate_of expected_files due free fields_of tables zeros width_of room_for room_of read_of mark_read file_mark table_of key_field file_entries bytes_of
of_two = refl

-- which is not the first field of file 15
pub behind-level : of 15 "[{\"Level\":1,\"TaskID\":\"S1\"}]" ≡ (entry 22 2 3614 1 ∷ [])
unfolding open-files open-entries open-rows schedule gate_of expected_files due free fields_of tables zeros width_of room_for room_of read_of mark_read file_mark table_of key_field file_entries bytes_of
behind-level = refl

-- the first field of each key of document 002, section 2.2, by its name
pub key-fields : map key_field (4 ∷ 5 ∷ 6 ∷ 7 ∷ 8 ∷ 9 ∷ 10 ∷ 11 ∷ 12 ∷ 13 ∷ 14 ∷ 15 ∷ 16 ∷ 17 ∷ 18 ∷ 19 ∷ [])
    ≡ (no 4 "CustomFieldID" ∷ no 5 "CustomFieldID" ∷ no 6 "ID" ∷ no 7 "CalendarID" ∷ no 8 "CalendarID" ∷ no 9 "ID" ∷ no 10 "TaskID" ∷ no 11 "CustomFieldID" ∷ no 12 "TaskID" ∷ no 13 "TaskID" ∷ no 14 "PredecessorTaskID" ∷ no 15 "TaskID" ∷ no 16 "ID" ∷ no 17 "CustomFieldID" ∷ no 18 "ResourceID" ∷ no 19 "ResourceID" ∷ [])
unfolding open-rows key_field
key-fields = refl
