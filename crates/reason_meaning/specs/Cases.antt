-- The cases of order 6's readings, each over a few files by their numbers: what is told of a mark of a gate over document 01's
-- files. The files are read into 128 cells that are 0, enough for each text below; the gate itself has cells for 4,096 records.
use Rattle.std.specs.Prelude.{ℕ, ◌+◌, ◌*◌, cond, List, [], ◌∷◌, length, replicate, ltb, eqb}
use Prim.Native.String.{String}
use Rattle.parts.specs.Files.{File, Left, Given, bytes_of}
use Rattle.mark_numbers.specs.declared.Mark.{Mark}
use Rattle.json_bytes.specs.Ascii.{codes}
use Rattle.table_fields.specs.Fields.{fields_of}
use Rattle.table_fields.specs.Flat.{value_places, value_texts}
use Rattle.table_file.specs.Table.{TableRead}
use Rattle.table_file.specs.File.{file_of}
use Rattle.rule_cells.specs.Cells.{Table, table}
use Rattle.rule_shape.specs.Rule.{first_file_of, second_file_of}
use Rattle.rules.specs.Judge.{rule_break, is_judged, mark_of}
use Rattle.schedule_rules.specs.Rules.{no}
use Rattle.bundle_bytes.specs.Pieces.{piece_start}
use Rattle.bundle_layout.specs.Bundle.{header_size}
use Rattle.reason_answer.specs.declared.Reason.{Reason}
use Rattle.reason_answer.specs.declared.Reason.TheVariants.{Holds, NotJudged, OwnMark, Broken, Missing}
use Rattle.reason_answer.specs.Reason.{shown_at}
use Rattle.gate_marks.specs.Gate.{Gate, rule_of_mark}
use Rattle.gate_marks.specs.Marks.{mark_read}
use Rattle.reason.specs.Reason.{told_of}

-- ---- Files by their numbers; any other is omitted
unfoldable pub file_in : List (ℕ × String) → ℕ → File
file_in [] k = Left
file_in (f ∷ rest) k = cond (eqb f.0 k) (Given (codes f.1)) (file_in rest k)

module _ (g : Gate) (files : List (ℕ × String)) where
  unfoldable pub reading : ℕ → TableRead
  reading k = file_of (g.expected k) (file_in files k) (replicate 128 0)

  unfoldable pub table_here : ℕ → Table
  table_here k = let r = reading k in table (bytes_of (file_in files k)) r.cells (2 * length (fields_of k)) r.read.records

  unfoldable pub kind_here : ℕ → ℕ
  kind_here k = (reading k).read.kind

  -- "164 plus the lengths of all earlier present files"
  unfoldable pub start_here : ℕ → ℕ
  start_here k = header_size 20 + piece_start (λ j. bytes_of (file_in files j)) k

  -- ---- The mark of a number, and what is told of it
  unfoldable pub mark_here : ℕ → Mark
  mark_here m =
      let rule = rule_of_mark g m in
      cond (ltb m 20) (mark_read (reading m).read)
      (mark_of (is_judged (kind_here (first_file_of rule)) (kind_here (second_file_of rule))) (rule_break value_places value_texts rule (table_here (first_file_of rule)) (table_here (second_file_of rule))))

  unfoldable pub told : ℕ → Reason
  told m =
      let rule = rule_of_mark g m in
      told_of 20 m rule (start_here (first_file_of rule)) kind_here (table_here (first_file_of rule)) (mark_here m)

-- ---- The cases
pub record Case : Type 0 where
  pub files : List (ℕ × String)
  pub mark : ℕ
  pub stated : Reason

abbrev pub case : List (ℕ × String) → ℕ → Reason → Case
case files mark stated = record { files = files; mark = mark; stated = stated }

-- a rule broken at a record, with its companion; the field by its name; where the value starts in the bundle, and its length
unfoldable pub broken : ℕ → ℕ → ℕ → String → ℕ → ℕ → Reason
broken file r companion name start length = Broken (shown_at file r companion (no file name) start length)

unfoldable pub missing : ℕ → ℕ → String → ℕ → ℕ → ℕ → Reason
missing file r name start length searched = Missing (shown_at file r 0 (no file name) start length) searched

unfoldable pub cases : List Case
cases =
    -- 6.1: a start counts from the first byte of the bundle
    case ((6, "[{\"ID\":\"A\",\"Name\":\"n\"}]") ∷ []) 67 (broken 6 1 0 "ID" 171 3)
    -- 6.1b: the same behind file 0
    ∷ case ((0, "IPMDAR_SCHEDULE_PERFORMANCE_DATASET/1.0") ∷ (6, "[{\"ID\":\"A\",\"Name\":\"n\"}]") ∷ []) 67 (broken 6 1 0 "ID" 210 3)
    -- 6.2: a null has no part
    ∷ case ((13, "[{\"TaskID\":\"T\",\"ConstraintTypeID\":\"DEADLINE\",\"ConstraintDate\":null}]") ∷ []) 77 (broken 13 1 0 "ConstraintDate" 0 0)
    -- 6.2b: nor has an empty string
    ∷ case ((15, "[{\"Level\":1,\"TaskID\":\"A\",\"ParentTaskID\":\"\"},{\"Level\":2,\"TaskID\":\"B\",\"ParentTaskID\":\"\"}]") ∷ []) 79 (broken 15 2 1 "ParentTaskID" 0 0)
    -- 6.3: a repeated key shows both records, and its first field as the later one has it
    ∷ case ((7, "[{\"CalendarID\":\"c\",\"MondayWorkHours\":8},{\"MondayWorkHours\":8,\"Ordinal\":0.0,\"CalendarID\":\"\\u0043\"}]") ∷ []) 23 (broken 7 2 1 "CalendarID" 252 8)
    -- 6.4: a missing target names the table searched
    ∷ case ((7, "[{\"CalendarID\":\"c\",\"MondayWorkHours\":8},{\"MondayWorkHours\":8,\"Ordinal\":0.0,\"CalendarID\":\"\\u0043\"}]") ∷ []) 49 (missing 7 1 "CalendarID" 179 3 6)
    -- 6.5: the field whose null is asked about
    ∷ case ((1, "{\"SecurityMarking\":\"U\",\"ReportingPeriodEndDate\":\"2026-01-01\",\"ContractorIDCode\":\"x\"}") ∷ []) 65 (broken 1 1 0 "ContractorIDCode" 244 3)
    -- 6.6: the first in table order, not as written
    ∷ case ((7, "[{\"CalendarID\":\"c\",\"MondayWorkHours\":-2,\"SundayWorkHours\":-1e0}]") ∷ []) 68 (broken 7 1 0 "SundayWorkHours" 222 4)
    -- 6.7: SundayWorkHours, whatever the others are
    ∷ case ((7, "[{\"CalendarID\":\"c\",\"MondayWorkHours\":-2}]") ∷ []) 69 (broken 7 1 0 "SundayWorkHours" 0 0)
    -- 6.9: the Level of the breaking record
    ∷ case ((15, "[{\"Level\":1,\"TaskID\":\"A\"},{\"Level\":3,\"TaskID\":\"B\",\"ParentTaskID\":\"a\"}]") ∷ []) 78 (broken 15 2 0 "Level" 199 1)
    -- 6.10: the child's ParentTaskID; the parent is the companion
    ∷ case ((15, "[{\"Level\":1,\"TaskID\":\"A\"},{\"Level\":3,\"TaskID\":\"B\",\"ParentTaskID\":\"a\"}]") ∷ []) 80 (broken 15 2 1 "ParentTaskID" 229 3)
    -- 6.11: a file's own mark, its numbers alone
    ∷ case ((6, "[{\"id\":1}]") ∷ []) 6 (OwnMark 13 2 1)
    -- 6.12: the lowest-numbered unreadable file of those that the rule reads
    ∷ case ((4, "[") ∷ (9, "[") ∷ (15, "[") ∷ []) 80 (NotJudged 9)
    -- 6.12b: an omitted file 1 is one
    ∷ case ([]) 65 (NotJudged 1)
    -- and a mark that holds says so
    ∷ case ((6, "[{\"ID\":\"A\",\"Name\":\"n\"}]") ∷ []) 22 (Holds)
    ∷ []
