-- For the code's sake alone: the entries of a set as numbers in a lent workspace. Each file is read into the front of it, one
-- after the other, and its entries go behind those of the files before, from a place on.
use Rattle.std.specs.Prelude.{ℕ, zero, suc, ◌+◌, ◌*◌, Bool, cond, List, length, leb}
use Rattle.parts.specs.Files.{File}
use Rattle.bundle_bytes.specs.Pieces.{written}
use Rattle.table_file.specs.File.{Expected}
use Rattle.bundle_layout.specs.Bundle.{file_at}
use Rattle.bundle_layout.specs.Change.{files_after}
use Rattle.entries.specs.Flat.{flat_of}
use Rattle.gate_marks.specs.declared.Scope.{Scope}
use Rattle.gate_marks.specs.declared.Scope.TheVariants.{Full, Change}
use Rattle.gate_marks.specs.Gate.{Gate}
use Rattle.gate_marks.specs.Work.{read_of}
use Rattle.gate_marks.specs.Again.{is_needed, workspace_of}
use Rattle.set_entries.specs.Entries.{key_field, file_entries, entries_up_to, set_entries}

-- the files that are judged: those of a bundle, or as they stand after a change of one of them to f
unfoldable pub files_in : List ℕ → Scope → File → ℕ → File
files_in s Full f = file_at s
files_in s (Change k) f = files_after s k f
files_in s (Scope.Mark m) f = file_at s

-- one file's cells at the front and its entries at a place
unfoldable pub file_listed : ℕ → Expected → File → ℕ → List ℕ → List ℕ
file_listed k e f at work = written (written work 0 (read_of e f).cells) at (flat_of (file_entries k e f))

unfoldable pub listed_up_to : (ℕ → Expected) → (ℕ → Bool) → (ℕ → File) → ℕ → ℕ → List ℕ → List ℕ
listed_up_to expected needed files base zero work = work
listed_up_to expected needed files base (suc n) work =
    cond (needed (4 + n)) (file_listed (key_field (4 + n)) (expected (4 + n)) (files (4 + n)) (base + 4 * length (entries_up_to expected needed files n)) (listed_up_to expected needed files base n work))
    (listed_up_to expected needed files base n work)

-- ---- The workspace of the calls with a list: behind the cells, four numbers for each entry that there can be, 4,096 for each of
-- 16 files
unfoldable pub list_space_of : Gate → ℕ
list_space_of g = workspace_of g + 262144

unfoldable pub set_listed : Gate → Scope → (ℕ → File) → List ℕ → List ℕ
set_listed g scope files work = listed_up_to g.expected (is_needed g scope) files (workspace_of g) 16 work

-- how many are listed, and what is left: nothing is done where the workspace is too short
unfoldable pub count_listed : Gate → Scope → (ℕ → File) → ℕ → ℕ
count_listed g scope files lent = cond (leb (list_space_of g) lent) (length (set_entries g scope files)) 0

unfoldable pub work_listed : Gate → Scope → (ℕ → File) → List ℕ → List ℕ
work_listed g scope files work = cond (leb (list_space_of g) (length work)) (set_listed g scope files work) work
