-- Document 01, "Both sides of each line": the cases that it marks (P), in its order, each with what the definitions answer
-- and what the paper states. What is judged is a file's text, read and judged by the definitions that the contracts use.
use Rattle.std.specs.Prelude.{ℕ, zero, suc, ◌*◌, Bool, true, false, cond, not, List, [], ◌∷◌, length, replicate}
use Prim.Native.String.{String, ◌++◌}
use Rattle.json_number.specs.declared.Integer.{Integer}
use Rattle.json_number.specs.declared.Integer.TheVariants.{Is, Fraction, TooLarge}
use Rattle.parts.specs.Files.{Given}
use Rattle.json_bytes.specs.Ascii.{codes}
use Rattle.table_fields.specs.Fields.{fields_of}
use Rattle.table_fields.specs.Flat.{value_places, value_texts}
use Rattle.table_file.specs.Table.{TableRead}
use Rattle.table_file.specs.File.{file_of}
use Rattle.rule_cells.specs.Cells.{Table, table, integer_in}
use Rattle.rule_outline.specs.Outline.{level_of, parents_up_to}
use Rattle.rule_shape.specs.declared.Rule.{Rule}
use Rattle.rule_shape.specs.Rule.{first_file_of}
use Rattle.rules.specs.Judge.{rule_break, is_judged, mark_of}
use Rattle.schedule_rules.specs.Rules.{no}
use Rattle.gate_marks.specs.Gate.{marks_of, rule_of_mark, reads_file}
use Rattle.schedule.specs.Schedule.{schedule}

-- ---- A case
pub record Case : Type 0 where
  pub answered : List ℕ
  pub stated : List ℕ

infix 70 ◌gives◌
abbrev pub ◌gives◌ : List ℕ → List ℕ → Case
◌gives◌ answered stated = record { answered = answered; stated = stated }

-- ---- Marks, "each a kind and a place", and order 5's third number
abbrev pub paper_mark : ℕ → ℕ → ℕ → List ℕ
paper_mark kind place companion = kind ∷ place ∷ companion ∷ []

-- "Kind 0 place 0: holds"; "Kind 1: broken, place the first breaking record"
abbrev pub paper_holds : List ℕ
paper_holds = paper_mark 0 0 0

abbrev pub paper_broken : ℕ → ℕ → List ℕ
paper_broken place companion = paper_mark 1 place companion

-- ---- Marks 0 to 19
-- a file by its number and its text, read into cells that are 0; 64 are enough for each text below
unfoldable pub reading : ℕ → String → TableRead
reading file s = file_of (schedule.expected file) (Given (codes s)) (replicate 64 0)

unfoldable pub paper_file_mark : ℕ → String → List ℕ
paper_file_mark file s = let r = (reading file s).read in paper_mark r.kind r.place r.companion

-- the file as the rules see it
unfoldable pub paper_table : ℕ → String → Table
paper_table file s = let r = reading file s in table (codes s) r.cells (2 * length (fields_of file)) r.read.records

-- ---- Marks 20 to 80, of rules that read one file
abbrev pub rule_for : ℕ → Rule
rule_for m = rule_of_mark schedule m

unfoldable pub paper_rule_mark : ℕ → String → List ℕ
paper_rule_mark m s =
    let file = first_file_of (rule_for m) in
    let kind = (reading file s).read.kind in
    let t = paper_table file s in
    let r = mark_of (is_judged kind kind) (rule_break value_places value_texts (rule_for m) t t) in
    paper_mark r.kind r.place r.companion

-- ---- What else the cases ask for
-- an Integer of zero or more; nothing for any other
unfoldable pub natural : Integer → List ℕ
natural (Is negative n) = cond negative [] (n ∷ [])
natural Fraction = []
natural TooLarge = []

-- the Ordinal of the first record of a file 7
unfoldable pub ordinal_in : String → List ℕ
ordinal_in s = natural (integer_in (paper_table 7 s) 0 (no 7 "Ordinal"))

-- the parents of the records of a file 15, counted from 1, 0 for none
unfoldable pub parents_in : String → List ℕ
parents_in s = parents_up_to (level_of (paper_table 15 s) (no 15 "Level")) (paper_table 15 s).records

-- of n marks from mark m on, those that pass a test
unfoldable pub paper_marks : (ℕ → Bool) → ℕ → ℕ → List ℕ
paper_marks test zero m = []
paper_marks test (suc n) m = elim (test m) [ true ↦ m ∷ paper_marks test n (suc m) | false ↦ paper_marks test n (suc m) ]

-- "the changed file's mark and those of the rules that read it", and "All other marks come back as handed in"
unfoldable pub paper_touched : ℕ → List ℕ
paper_touched file = paper_marks (λ m. reads_file schedule m file) (marks_of schedule) 0

unfoldable pub coming_back : ℕ → List ℕ
coming_back file = paper_marks (λ m. not (reads_file schedule m file)) (marks_of schedule) 0

-- ---- Texts
unfoldable pub quoted : String → String
quoted s = "\"" ++ s ++ "\""

-- an array with one record a value, the value last, behind the same other fields in each
unfoldable pub records_text : String → List String → String
records_text front [] = "]"
records_text front (v ∷ []) = front ++ v ++ "}]"
records_text front (v ∷ w ∷ vs) = front ++ v ++ "}," ++ records_text front (w ∷ vs)

unfoldable pub array_text : String → List String → String
array_text front values = "[" ++ records_text front values

-- file 6, Calendars: ID is a StringID, Name a String, Comments a Text
unfoldable pub with_id : List String → String
with_id = array_text "{\"Name\":\"N\",\"ID\":"

unfoldable pub with_name : List String → String
with_name = array_text "{\"ID\":\"C\",\"Name\":"

unfoldable pub with_comments : List String → String
with_comments = array_text "{\"ID\":\"C\",\"Name\":\"N\",\"Comments\":"

-- file 7, CalendarWorkshifts: Ordinal is an Integer, SundayWorkHours a Decimal
unfoldable pub with_ordinal : List String → String
with_ordinal = array_text "{\"CalendarID\":\"C\",\"Ordinal\":"

unfoldable pub with_hours : List String → String
with_hours = array_text "{\"CalendarID\":\"C\",\"SundayWorkHours\":"

-- file 8, CalendarExceptions: ExceptionDate is a Date
unfoldable pub with_date : List String → String
with_date = array_text "{\"CalendarID\":\"C\",\"ExceptionDate\":"

-- file 15, TaskOutlineStructure
unfoldable pub with_level : List String → String
with_level = array_text "{\"TaskID\":\"T\",\"Level\":"

-- ---- The cases. Where a value or a character is at fault, the place is how many bytes stand before it.
unfoldable pub cases : List Case
cases =
    -- P1 `ENG-01` and `eng-01` are one ID: mark 22, the key of Calendars
    paper_rule_mark 22 (with_id (quoted "ENG-01" ∷ quoted "eng-01" ∷ [])) gives paper_broken 2 1 ∷
    paper_rule_mark 22 (with_id (quoted "ENG-01" ∷ quoted "eng-02" ∷ [])) gives paper_holds ∷
    -- P2 Ordinal null, 0 and `0.0` are one key value: mark 23, the key of CalendarWorkshifts
    paper_rule_mark 23 (with_ordinal ("null" ∷ "0" ∷ [])) gives paper_broken 2 1 ∷
    paper_rule_mark 23 (with_ordinal ("null" ∷ "0.0" ∷ [])) gives paper_broken 2 1 ∷
    paper_rule_mark 23 (with_ordinal ("0" ∷ "0.0" ∷ [])) gives paper_broken 2 1 ∷
    paper_rule_mark 23 (with_ordinal ("0" ∷ "1" ∷ [])) gives paper_holds ∷
    -- P3 `10e-1` is Integer 1; `0.5` is 34 (order 4 of document 02), in the place it had; 15 is for another JSON kind
    paper_file_mark 7 (with_ordinal ("10e-1" ∷ [])) gives paper_holds ∷
    ordinal_in (with_ordinal ("10e-1" ∷ [])) gives (1 ∷ []) ∷
    paper_file_mark 7 (with_ordinal ("0.5" ∷ [])) gives paper_mark 34 29 1 ∷
    paper_file_mark 7 (with_ordinal (quoted "0  5" ∷ [])) gives paper_mark 15 29 1 ∷
    -- P4 `-0` isn't below zero: mark 68, "no hours below zero"
    paper_rule_mark 68 (with_hours ("-0" ∷ [])) gives paper_holds ∷
    paper_rule_mark 68 (with_hours ("-1" ∷ [])) gives paper_broken 1 0 ∷
    -- P5 `999999999999999` fits; `1000000000000000` fits as a Decimal (c 1, p 15: order 1 of document 02) and is 18 as an
    -- Integer
    paper_file_mark 7 (with_hours ("999999999999999" ∷ [])) gives paper_holds ∷
    paper_file_mark 7 (with_hours ("1000000000000000" ∷ [])) gives paper_holds ∷
    paper_file_mark 7 (with_ordinal ("999999999999999" ∷ [])) gives paper_holds ∷
    paper_file_mark 7 (with_ordinal ("1000000000000000" ∷ [])) gives paper_mark 18 29 1 ∷
    -- order 1: `8.0000000000000000` and `0e99` fit, `10e15` is 18: its p is 16
    paper_file_mark 7 (with_hours ("8.0000000000000000" ∷ [])) gives paper_holds ∷
    paper_file_mark 7 (with_hours ("0e99" ∷ [])) gives paper_holds ∷
    paper_file_mark 7 (with_hours ("10e15" ∷ [])) gives paper_mark 18 37 1 ∷
    -- P6 Decimal `1e15` fits, `1e16` is 18; Integer `1e15` is 18
    paper_file_mark 7 (with_hours ("1e15" ∷ [])) gives paper_holds ∷
    paper_file_mark 7 (with_hours ("1e16" ∷ [])) gives paper_mark 18 37 1 ∷
    paper_file_mark 7 (with_ordinal ("1e15" ∷ [])) gives paper_mark 18 29 1 ∷
    -- P7 2000-02-29 is a date, 1900-02-29 isn't: 17
    paper_file_mark 8 (with_date (quoted "2000-02-29" ∷ [])) gives paper_holds ∷
    paper_file_mark 8 (with_date (quoted "1900-02-29" ∷ [])) gives paper_mark 17 35 1 ∷
    -- P8 `A  B` (two spaces) breaks String and not Text: 31 at the second space (order 4)
    paper_file_mark 6 (with_name (quoted "A  B" ∷ [])) gives paper_mark 31 21 1 ∷
    paper_file_mark 6 (with_comments (quoted "A  B" ∷ [])) gives paper_holds ∷
    -- order 4: each kind, at the backslash of an escape
    paper_file_mark 6 (with_comments (quoted "A\\u007F" ∷ [])) gives paper_mark 30 35 1 ∷
    paper_file_mark 6 (with_name (quoted "A\\tB" ∷ [])) gives paper_mark 31 20 1 ∷
    paper_file_mark 6 (with_id (quoted "A\\u00E9" ∷ [])) gives paper_mark 32 20 1 ∷
    paper_file_mark 6 (with_comments (quoted "A\\uD800" ∷ [])) gives paper_mark 33 35 1 ∷
    -- a space at the start and at the end
    paper_file_mark 6 (with_name (quoted " A" ∷ [])) gives paper_mark 31 19 1 ∷
    paper_file_mark 6 (with_name (quoted "A " ∷ [])) gives paper_mark 31 20 1 ∷
    -- two faults of one character: the lower kind; of two characters: the first
    paper_file_mark 6 (with_id (quoted "A\\u000B" ∷ [])) gives paper_mark 30 20 1 ∷
    paper_file_mark 6 (with_id (quoted "A\\tB" ∷ [])) gives paper_mark 31 20 1 ∷
    paper_file_mark 6 (with_id (quoted "A\\uD800" ∷ [])) gives paper_mark 32 20 1 ∷
    paper_file_mark 6 (with_id (quoted "\\u00E9\\u007F" ∷ [])) gives paper_mark 32 19 1 ∷
    -- order 5: a fault in the second record names it; the earliest of equal keys is named
    paper_file_mark 6 (with_name (quoted "A" ∷ quoted " A" ∷ [])) gives paper_mark 31 41 2 ∷
    paper_rule_mark 22 (with_id (quoted "A" ∷ quoted "B" ∷ quoted "b" ∷ [])) gives paper_broken 3 2 ∷
    -- P9 Levels 1,2,3,3,2 have parents none,1,2,2,1
    parents_in (with_level ("1" ∷ "2" ∷ "3" ∷ "3" ∷ "2" ∷ [])) gives (0 ∷ 1 ∷ 2 ∷ 2 ∷ 1 ∷ []) ∷
    -- P10 Levels 1,3 break mark 78 at 2; 1,1 doesn't
    paper_rule_mark 78 (with_level ("1" ∷ "3" ∷ [])) gives paper_broken 2 0 ∷
    paper_rule_mark 78 (with_level ("1" ∷ "1" ∷ [])) gives paper_holds ∷
    -- P11 Resources `[{"ID":"R1","Name":"Fitter"}]` is 19 at 27; `[{}]` is 19 at 2; `[]` holds
    paper_file_mark 16 "[{\"ID\":\"R1\",\"Name\":\"Fitter\"}]" gives paper_mark 19 27 0 ∷
    paper_file_mark 16 "[{}]" gives paper_mark 19 2 0 ∷
    paper_file_mark 16 "[]" gives paper_holds ∷
    -- P12 A changed file 9 touches marks 9, 25, 39–42, 51, 53, 55–57, 59, 60, 64, 71–74 and 80: 19 marks; 62 come back
    paper_touched 9 gives (9 ∷ 25 ∷ 39 ∷ 40 ∷ 41 ∷ 42 ∷ 51 ∷ 53 ∷ 55 ∷ 56 ∷ 57 ∷ 59 ∷ 60 ∷ 64 ∷ 71 ∷ 72 ∷ 73 ∷ 74 ∷ 80 ∷ []) ∷
    (length (paper_touched 9) ∷ length (coming_back 9) ∷ []) gives (19 ∷ 62 ∷ []) ∷
    []
