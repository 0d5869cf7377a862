-- The cells of a whole set in one list of numbers, each file's in a place of its own, so that every file is read once and
-- every rule finds what it reads.
use Rattle.std.specs.Prelude.{ℕ, zero, suc, ◌+◌, ◌*◌, Bool, cond, List, [], ◌∷◌, length, leb}
use Rattle.parts.specs.Part.{part_of}
use Rattle.parts.specs.Files.{File}
use Rattle.bundle_bytes.specs.Pieces.{written}
use Rattle.table_rows.specs.Rows.{Field}
use Rattle.table_file.specs.Table.{TableRead}
use Rattle.table_file.specs.File.{Form, Fixed, Single, Records, Expected, file_of}

unfoldable pub zeros : ℕ → List ℕ
zeros zero = []
zeros (suc n) = 0 ∷ zeros n

-- two cells a field
unfoldable pub width_of : Form → ℕ
width_of (Fixed text) = 0
width_of (Single fields) = 2 * length fields
width_of (Records fields) = 2 * length fields

-- a singleton has one record, any other table 4,096 at most; a table of over 64 fields has no cells, as no reader takes one
unfoldable pub room_for : ℕ → List Field → ℕ
room_for records fields = cond (leb (length fields) 64) (records * (2 * length fields)) 0

unfoldable pub room_of : Form → ℕ
room_of (Fixed text) = 0
room_of (Single fields) = room_for 1 fields
room_of (Records fields) = room_for 4096 fields

-- where a file's cells start, behind those of the files before it; behind the last file, this is the whole list's length
unfoldable pub room_start : (ℕ → Expected) → ℕ → ℕ
room_start expected zero = 0
room_start expected (suc k) = room_start expected k + room_of (expected k).form

-- a file's cells in such a list
unfoldable pub cells_in : (ℕ → Expected) → List ℕ → ℕ → List ℕ
cells_in expected work k = part_of work (room_start expected k) (room_start expected (suc k))

-- ---- A file read: its mark, its records, and its cells, over cells that are 0
unfoldable pub read_of : Expected → File → TableRead
read_of e f = file_of e f (zeros (room_of e.form))

-- what a file is read over: cells that are 0, or whatever stands in their place. Its mark, its records and their cells are the same over
-- either (table_file's `file-alike`).
unfoldable pub cells_before : Bool → (ℕ → Expected) → List ℕ → ℕ → List ℕ
cells_before cleared expected work k = cond cleared (zeros (room_of (expected k).form)) (cells_in expected work k)

-- the list with that file's cells in their place
unfoldable pub work_after : Bool → (ℕ → Expected) → ℕ → File → List ℕ → List ℕ
work_after cleared expected k f work =
    written work (room_start expected k) (file_of (expected k) f (cells_before cleared expected work k)).cells

-- the list with the cells of each needed one of the first n files in their place, and all else as it was
unfoldable pub work_read : Bool → (ℕ → Expected) → (ℕ → Bool) → (ℕ → File) → ℕ → List ℕ → List ℕ
work_read cleared expected needed files zero work = work
work_read cleared expected needed files (suc k) work =
    cond (needed k) (work_after cleared expected k (files k) (work_read cleared expected needed files k work)) (work_read cleared expected needed files k work)
