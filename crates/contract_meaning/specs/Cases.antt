-- The cases of order 9's readings, each over a few files by their numbers, 0 Subcontractors, 1 WBS, 2 OBS and 3 ControlAccounts: the lines
-- that are printed. The files are read into 128 cells that are 0, enough for each text below; the gate itself has cells for 4,096
-- records.
use Rattle.std.specs.Prelude.{ℕ, zero, suc, ◌*◌, cond, List, [], ◌∷◌, length, replicate, ltb, eqb}
use Prim.Native.String.{String, ◌++◌}
use Rattle.parts.specs.Files.{bytes_of}
use Rattle.mark_numbers.specs.declared.Mark.{Mark}
use Rattle.table_file.specs.Table.{TableRead}
use Rattle.table_file.specs.File.{file_of}
use Rattle.rule_cells.specs.Cells.{Table, table}
use Rattle.rule_shape.specs.Rule.{first_file_of, second_file_of}
use Rattle.rules.specs.Judge.{rule_break, is_judged, mark_of}
use Rattle.gate_marks.specs.Gate.{rule_of_mark}
use Rattle.gate_marks.specs.Marks.{mark_read}
use Rattle.contract_fields.specs.Fields.{contract_fields_of}
use Rattle.contract.specs.Contract.{contract}
use Rattle.reason_meaning.specs.Cases.{file_in}

-- ---- The mark of a number
module _ (files : List (ℕ × String)) where
  unfoldable pub reading : ℕ → TableRead
  reading k = file_of (contract.expected k) (file_in files k) (replicate 128 0)

  unfoldable pub table_here : ℕ → Table
  table_here k = let r = reading k in table (bytes_of (file_in files k)) r.cells (2 * length (contract_fields_of k)) r.read.records

  unfoldable pub mark_here : ℕ → Mark
  mark_here m =
      let rule = rule_of_mark contract m in
      cond (ltb m 4) (mark_read (reading m).read)
      (mark_of (is_judged (reading (first_file_of rule)).read.kind (reading (second_file_of rule)).read.kind) (rule_break [] [] rule (table_here (first_file_of rule)) (table_here (second_file_of rule))))

  -- of n marks from mark m on, the number, kind, place and companion of each that doesn't hold
  unfoldable pub lines_from : ℕ → ℕ → List (List ℕ)
  lines_from zero m = []
  lines_from (suc n) m =
      cond (eqb (mark_here m).kind 0) (lines_from n (suc m)) ((m ∷ (mark_here m).kind ∷ (mark_here m).place ∷ (mark_here m).companion ∷ []) ∷ lines_from n (suc m))

  unfoldable pub lines_of : List (List ℕ)
  lines_of = lines_from 19 0

-- ---- Files
-- an element of WBS or OBS
unfoldable pub element : String → String → String → String
element level id parent = "{\"Level\":" ++ level ++ ",\"ID\":\"" ++ id ++ "\",\"Name\":\"n\"" ++ parent ++ "}"

abbrev pub top : String
top = ""

unfoldable pub under : String → String
under id = ",\"ParentID\":\"" ++ id ++ "\""

unfoldable pub one : String → String
one a = "[" ++ a ++ "]"

unfoldable pub two_records : String → String → String
two_records a b = "[" ++ a ++ "," ++ b ++ "]"

unfoldable pub three_records : String → String → String → String
three_records a b c = "[" ++ a ++ "," ++ b ++ "," ++ c ++ "]"

-- one control account on an element of each
unfoldable pub account : String → String → String
account w o = "[{\"ID\":\"c\",\"Name\":\"n\",\"WBSElementID\":\"" ++ w ++ "\",\"OBSElementID\":\"" ++ o ++ "\"}]"

-- ---- The cases
pub record Case : Type 0 where
  pub files : List (ℕ × String)
  pub stated : List (List ℕ)

abbrev pub case : List (ℕ × String) → List (List ℕ) → Case
case files stated = record { files = files; stated = stated }

abbrev pub line : ℕ → ℕ → ℕ → ℕ → List ℕ
line m kind place companion = m ∷ kind ∷ place ∷ companion ∷ []

unfoldable pub cases : List Case
cases =
    -- 9.1: levels of WBS and OBS, then parents of WBS and OBS
    case ((1, two_records (element "1" "A" top) (element "1" "B" top)) ∷ (2, two_records (element "1" "A" top) (element "1" "B" top)) ∷ []) (line 13 1 2 0 ∷ line 14 1 2 0 ∷ line 15 1 2 0 ∷ line 16 1 2 0 ∷ [])
    -- 9.2: any file may be omitted; a present one of length 0 is 11 at 0
    ∷ case [] []
    ∷ case ((0, "") ∷ []) (line 0 11 0 0 ∷ line 4 2 0 0 ∷ line 8 2 0 0 ∷ [])
    -- 9.3: the first has Level 1
    ∷ case ((1, one (element "2" "A" top)) ∷ []) (line 13 1 1 0 ∷ [])
    -- 9.4: the first alone has no parent, whatever its Level; a second Level 1 has none and breaks the rule
    ∷ case ((1, two_records (element "1" "A" top) (element "1" "B" (under "A"))) ∷ []) (line 13 1 2 0 ∷ line 15 1 2 0 ∷ [])
    -- 9.5: the companion is the parent's record, also at Level 1
    ∷ case ((1, two_records (element "0" "A" top) (element "1" "B" top)) ∷ []) (line 13 1 1 0 ∷ line 15 1 2 1 ∷ [])
    -- 9.6: ParentID has two marks
    ∷ case ((1, three_records (element "1" "A" top) (element "2" "B" (under "a")) (element "2" "C" (under "B"))) ∷ []) (line 15 1 3 1 ∷ [])
    -- 9.7: children by Level and order, whatever ParentID says and even if levels are broken
    ∷ case ((1, two_records (element "1" "A" top) (element "3" "B" top)) ∷ (2, one (element "1" "O" top)) ∷ (3, account "a" "o") ∷ []) (line 13 1 2 0 ∷ line 15 1 2 1 ∷ line 17 1 1 0 ∷ [])
    -- 9.8: any one of several elements with the ID; with no match the leaf rule holds
    ∷ case ((1, two_records (element "1" "A" top) (element "2" "a" (under "A"))) ∷ (3, account "A" "x") ∷ []) (line 5 1 2 1 ∷ line 12 1 1 0 ∷ line 17 1 1 0 ∷ [])
    -- 9.9: which marks read WBS
    ∷ case ((1, "[") ∷ []) (line 1 11 1 0 ∷ line 5 2 0 0 ∷ line 9 2 0 0 ∷ line 11 2 0 0 ∷ line 13 2 0 0 ∷ line 15 2 0 0 ∷ line 17 2 0 0 ∷ [])
    -- 9.11: dates end here, and don't finish
    ∷ case ((3, "[{\"BaselineFinishDate\":null}]") ∷ []) (line 3 13 2 1 ∷ line 7 2 0 0 ∷ line 11 2 0 0 ∷ line 12 2 0 0 ∷ line 17 2 0 0 ∷ line 18 2 0 0 ∷ [])
    -- 9.12: orders 2, 4 and 5 hold here
    ∷ case ((0, "[{\"ID\":\"A\",\"Name\":\"x\\u00a0y\"}]") ∷ []) (line 0 31 20 1 ∷ line 4 2 0 0 ∷ line 8 2 0 0 ∷ [])
    ∷ []

-- ---- 9.13, as bytes: 35 of them; a count of 20; a length at no offset; the bundle of no files
unfoldable pub headers : List (List ℕ)
headers =
    replicate 35 0
    ∷ (20 ∷ replicate 163 0)
    ∷ (4 ∷ 0 ∷ 0 ∷ 0 ∷ 0 ∷ 0 ∷ 0 ∷ 0 ∷ 0 ∷ 0 ∷ 0 ∷ 0 ∷ 0 ∷ 0 ∷ 0 ∷ 0 ∷ 0 ∷ 0 ∷ 0 ∷ 0 ∷ 0 ∷ 0 ∷ 0 ∷ 0 ∷ 0 ∷ 0 ∷ 0 ∷ 0 ∷ 0 ∷ 0 ∷ 0 ∷ 0 ∷ 0 ∷ 0 ∷ 0 ∷ 1 ∷ [])
    ∷ (4 ∷ replicate 35 0)
    ∷ []
