-- The entries of a set. Document 02, order 7: "The list starts with the entries of the readable files among 4 to 19, file by
-- file".
use Rattle.std.specs.Prelude.{ℕ, zero, suc, ◌+◌, Bool, cond, List, [], ◌++◌, eqb}
use Rattle.parts.specs.Files.{File}
use Rattle.table_file.specs.File.{Expected}
use Rattle.entries.specs.declared.Entry.{Entry}
use Rattle.entries.specs.Entries.{entries_of}
use Rattle.gate_marks.specs.declared.Scope.{Scope}
use Rattle.gate_marks.specs.Gate.{Gate}
use Rattle.gate_marks.specs.Marks.{file_mark, table_of}
use Rattle.gate_marks.specs.Again.{is_needed}

-- "Of several key fields the entry describes the first": its number among the fields of its table, for files 4 to 19. It is the
-- table's first field but in file 15, TaskOutlineStructure, where Level stands before TaskID.
unfoldable pub key_field : ℕ → ℕ
key_field file = cond (eqb file 15) 1 0

-- of one file, with its key's text in field k: none where its own mark does not hold
unfoldable pub file_entries : ℕ → Expected → File → List Entry
file_entries k e f = cond (eqb (file_mark e f).kind 0) (entries_of (table_of e f) k (table_of e f).records) []

-- those of the first n of the files from 4 on, "file by file", of the files that are read for what is judged
unfoldable pub entries_up_to : (ℕ → Expected) → (ℕ → Bool) → (ℕ → File) → ℕ → List Entry
entries_up_to expected needed files zero = []
entries_up_to expected needed files (suc n) =
    entries_up_to expected needed files n ++ cond (needed (4 + n)) (file_entries (key_field (4 + n)) (expected (4 + n)) (files (4 + n))) []

-- files 4 to 19: a full judgement reads them all, a change those that the marks read which it touches
unfoldable pub set_entries : Gate → Scope → (ℕ → File) → List Entry
set_entries g scope files = entries_up_to g.expected (is_needed g scope) files 16
