-- A table of a set read once more, into cells of its own: a judgement leaves the cells of every file, but not how many records
-- each has.
use Rattle.std.specs.Prelude.{ℕ, false, List}
use Rattle.table_fields.specs.Fields.{fields_of}
use Rattle.table_file.specs.Table.{TableRead}
use Rattle.table_file.specs.File.{Expected, Records, file_of}
use Rattle.bundle_layout.specs.Bundle.{file_at}
use Rattle.gate_marks.specs.Work.{zeros}

-- file k as an array of records with the fields of document 002, which may be omitted
unfoldable pub as_records : ℕ → Expected
as_records k = record { form = Records (fields_of k); required = false }

-- over so many cells, all 0
unfoldable pub file_read_again : List ℕ → ℕ → ℕ → TableRead
file_read_again s k room = file_of (as_records k) (file_at s k) (zeros room)
