-- What the calls answer that other programs make: the three of document 01 in a lent workspace, the printed text, and small
-- ones beside them. Each says by a number which gate it is for. Marks are handed over as lists. A call that is refused leaves
-- every list as it is said.
use Rattle.std.specs.Prelude.{ℕ, cond, ◌&&◌, List, [], length, set, eqb, ltb, leb}
use Rattle.parts.specs.Files.{File, new_file}
use Rattle.mark_numbers.specs.Marks.{Marks, fresh_marks}
use Rattle.bundle_layout.specs.Bundle.{offset_at, length_at, is_omitted, lookup_fault}
use Rattle.gate_marks.specs.Gate.{Gate, marks_of}
use Rattle.gate_marks.specs.Again.{has_lists}
use Rattle.gate_calls.specs.Calls.{Answer, answer}
use Rattle.gate_calls.specs.Lent.{judged_in, tried_in, made_in, output_in}
use Rattle.bundle_layout.specs.Put.{empty_bundle}
use Rattle.gate_lists.specs.declared.Which.{Which}
use Rattle.gate_lists.specs.declared.Which.TheVariants.{Schedule, Baseline, Contract}
use Rattle.gate_lists.specs.Which.{gate_called}
use Rattle.gate_names.specs.Names.{file_name_of}
use Rattle.report.specs.Report.{text_in}

-- a list where a call is not refused, and as it was where it is
unfoldable pub unless_refused : ℕ → List ℕ → List ℕ → List ℕ
unless_refused refusal new old = cond (eqb refusal 0) new old

-- ---- The gates by their numbers: 0 is document 01's, 1 its baseline profile, 2 the contract side. Any other number is refused as 103,
-- before all else.
unfoldable pub which_of : ℕ → Which
which_of gate = cond (eqb gate 2) Contract (cond (eqb gate 1) Baseline Schedule)

abbrev pub gate_numbered : ℕ → Gate
gate_numbered gate = gate_called (which_of gate)

unfoldable pub gate_fault : ℕ → ℕ
gate_fault gate = cond (ltb 2 gate) 103 0

-- then 100 where a list is not of as many as there are marks
unfoldable pub board_fault : ℕ → Marks → ℕ
board_fault gate handed = cond (ltb 2 gate) 103 (cond (has_lists (gate_numbered gate) handed) 0 100)

-- a call with a fault of its own leaves everything as it is
unfoldable pub called : ℕ → Marks → Answer → Answer
called fault handed whole = cond (eqb fault 0) whole (answer fault 0 handed)

unfoldable pub judge_called : ℕ → List ℕ → ℕ → Marks → Answer
judge_called gate s lent handed = called (gate_fault gate) handed (judged_in (gate_numbered gate) s lent handed)

-- ---- Calls with a change
-- 100 also where the list for the new bundle's length is not of 1; then 101 where the number that says whether there are new
-- bytes is neither 1 nor 0
unfoldable pub call_fault : ℕ → Marks → List ℕ → ℕ → ℕ
call_fault gate handed size present =
    cond (eqb (board_fault gate handed) 0) (cond (eqb (length size) 1) (cond (ltb 1 present) 101 0) 100) (board_fault gate handed)

-- the new file of a change: these bytes where `present` is 1, none where it is 0
abbrev pub file_handed : ℕ → List ℕ → File
file_handed present bytes = new_file (eqb present 1) bytes

unfoldable pub try_called : ℕ → List ℕ → ℕ → ℕ → List ℕ → List ℕ → ℕ → Marks → Answer
try_called gate s file present bytes size lent handed =
    called (call_fault gate handed size present) handed (tried_in (gate_numbered gate) s file (file_handed present bytes) lent handed)

unfoldable pub make_called : ℕ → List ℕ → ℕ → ℕ → List ℕ → ℕ → List ℕ → ℕ → Marks → Answer
make_called gate s file present bytes room size lent handed =
    called (call_fault gate handed size present) handed (made_in (gate_numbered gate) s file (file_handed present bytes) room lent handed)

unfoldable pub output_called : ℕ → List ℕ → ℕ → ℕ → List ℕ → List ℕ → List ℕ → ℕ → Marks → List ℕ
output_called gate s file present bytes out size lent handed =
    unless_refused (call_fault gate handed size present) (output_in (gate_numbered gate) s file (file_handed present bytes) lent handed out) out

-- the list that gets the new bundle's length; as it was where the call is refused
unfoldable pub size_after : Answer → List ℕ → List ℕ
size_after x size = unless_refused x.refusal (set size 0 x.length) size

-- ---- The text, of a board of as many marks as the gate has; none where a number, a list or the output is wrong
unfoldable pub text_called : ℕ → ℕ → Marks → ℕ → List ℕ
text_called gate refusal handed room = cond (eqb (board_fault gate handed) 0) (text_in refusal handed room) []

-- ---- A fresh board: with a fault nothing is written
unfoldable pub fresh_called : ℕ → Marks → Marks
fresh_called gate handed = cond (eqb (board_fault gate handed) 0) (fresh_marks (marks_of (gate_numbered gate))) handed

-- ---- A file asked for by number
-- 103, then 100 where a list has another length than it must have, then the refusals 1 to 4, else 0
unfoldable pub file_fault : ℕ → List ℕ → ℕ → List ℕ → List ℕ → ℕ
file_fault gate s file present place =
    cond (ltb 2 gate) 103 (cond (eqb (length present) 1 && eqb (length place) 2) (lookup_fault (gate_numbered gate).files s file) 100)

-- 1 for a file that is there, 0 for an omitted one
unfoldable pub present_number : List ℕ → ℕ → ℕ
present_number s file = cond (is_omitted s file) 0 1

-- where it stands, and how long it is: the header's own numbers, 0 and 0 for an omitted one
unfoldable pub file_place : List ℕ → ℕ → List ℕ → List ℕ
file_place s file place = set (set place 0 (offset_at s file)) 1 (length_at s file)

-- ---- The bundle with no files, and the name of a file; nothing for a gate or a file that there is not
unfoldable pub empty_of : ℕ → List ℕ
empty_of gate = cond (ltb 2 gate) [] (empty_bundle (gate_numbered gate).files)

unfoldable pub name_of : ℕ → ℕ → List ℕ
name_of gate file = cond (ltb 2 gate) [] (file_name_of (which_of gate) file)

-- ---- A text at the front of an output
-- how long it is; 0 where the output is shorter, and nothing is then written
unfoldable pub length_in : List ℕ → List ℕ → ℕ
length_in out text = cond (leb (length text) (length out)) (length text) 0
