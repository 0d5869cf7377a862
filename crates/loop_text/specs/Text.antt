-- What the programs of document 02, order 14, print: the number of a refusal, `none`, or the records of a loop; explained, each of
-- its links in words besides.
use Rattle.std.specs.Prelude.{ℕ, ◌+◌, ◌-◌, ◌≡◌, Bool, cond, List, [], ◌++◌, length, get_or, take, eqb, Some, None, Ok, Err}
use Rattle.json_bytes.specs.Ascii.{codes}
use Rattle.parts.specs.Part.{part_of}
use Rattle.output.specs.Decimal.{decimal}
use Rattle.output.specs.Output.{output_at, put, ended}
use Rattle.table_rows.specs.Rows.{cell_at}
use Rattle.rule_cells.specs.Cells.{Table}
use Rattle.bundle_bytes.specs.Pieces.{joined}
use Rattle.report.specs.Report.{refusal_text}
use Rattle.wording.specs.Wording.{value_text}
use Rattle.show_loop.specs.Show.{Shown, links, ShowsLoopIn}

-- the last of the ring's records
unfoldable pub is_last : List ℕ → ℕ → Bool
is_last ring i = eqb (i + 1) (length ring)

-- ---- The record numbers on one line, single spaces between
unfoldable pub number_text : List ℕ → ℕ → List ℕ
number_text ring i = ended (get_or ring i 0) (cond (is_last ring i) 10 32)

unfoldable pub numbers_line : List ℕ → List ℕ
numbers_line ring = joined (number_text ring) (length ring)

-- ---- A link in words
-- an ID as it stands in the file, cut as values are; two cells of record r, which is counted from 1, say where
unfoldable pub id_text : Table → ℕ → ℕ → List ℕ
id_text t r j =
    value_text (part_of t.bytes (cell_at t.cells t.width (r - 1) j) (cell_at t.cells t.width (r - 1) (j + 1)))

-- its PredecessorTaskID has the first two of them, its SuccessorTaskID the next two
unfoldable pub waits_text : Table → ℕ → List ℕ
waits_text t r = codes ": SuccessorTaskID " ++ id_text t r 2 ++ codes " waits for PredecessorTaskID " ++ id_text t r 0

-- "each successor the next one's predecessor and the last leading to the first"
unfoldable pub leads_text : List ℕ → ℕ → List ℕ
leads_text ring i =
    cond (is_last ring i) (codes " and leads back to record " ++ decimal (get_or ring 0 0) ++ codes ". Take a link of the loop out.\n")
    (codes " and leads to record " ++ decimal (get_or ring (i + 1) 0) ++ codes ".\n")

unfoldable pub link_line : Table → List ℕ → ℕ → List ℕ
link_line t ring i =
    codes "TaskRelationships record " ++ decimal (get_or ring i 0) ++ waits_text t (get_or ring i 0) ++ leads_text ring i

unfoldable pub link_lines : Table → List ℕ → List ℕ
link_lines t ring = joined (link_line t ring) (length ring)

-- ---- The whole text
unfoldable pub ring_text : Bool → List ℕ → List ℕ → List ℕ
ring_text explained s ring = numbers_line ring ++ cond explained (link_lines (links s) ring) []

-- of what is shown of bundle s, and of the list as it then is
unfoldable pub loop_text : Bool → List ℕ → List ℕ → Shown → List ℕ
loop_text explained s list (Ok None) = codes "none\n"
loop_text explained s list (Ok (Some m)) = ring_text explained s (take m list)
loop_text explained s list (Err refusal) = refusal_text refusal

-- An output of bytes `old` is `new` after the call, with r bytes of text at its front: what is told is what is shown, over a lent
-- workspace and a lent list. Which loop it is, is left open.
pub record TellsLoop (explained : Bool) (lent : ℕ) (s before after old new : List ℕ) (r : ℕ) : Type 0 where
  pub shown : Shown
  pub shows : ShowsLoopIn lent s before after shown
  pub told : output_at new r ≡ put (output_at old 0) (loop_text explained s after shown)
