-- Each mark as a function of the files that its line names and of nothing else: not of where they came from, and not of
-- other marks. Document 01, "A rule reads only the files named in its line."
use Rattle.std.specs.Prelude.{ℕ, cond, ◌&&◌, ltb}
use Rattle.parts.specs.Files.{File, bytes_of}
use Rattle.mark_numbers.specs.declared.Mark.{Mark}
use Rattle.mark_numbers.specs.Marks.{Marks, marks_from, not_judged}
use Rattle.table_file.specs.declared.FileRead.{FileRead}
use Rattle.table_file.specs.File.{Expected}
use Rattle.rule_cells.specs.Cells.{Table, table}
use Rattle.rule_shape.specs.declared.Rule.{Rule}
use Rattle.rule_shape.specs.Rule.{first_file_of, second_file_of}
use Rattle.rules.specs.Judge.{rule_break, is_judged, mark_of}
use Rattle.gate_marks.specs.Gate.{Gate, marks_of, rule_of_mark}
use Rattle.gate_marks.specs.Work.{width_of, read_of}

-- ---- "Marks 0 to 19: the file itself"
unfoldable pub mark_read : FileRead → Mark
mark_read r = record { kind = r.kind; place = r.place; companion = r.companion }

unfoldable pub file_mark : Expected → File → Mark
file_mark e f = mark_read (read_of e f).read

-- ---- "Marks 20 to 80: the rules"
-- a readable file as the rules see it
unfoldable pub table_of : Expected → File → Table
table_of e f = table (bytes_of f) (read_of e f).cells (width_of e.form) (read_of e f).read.records

unfoldable pub rule_mark : Gate → Rule → File → File → Mark
rule_mark g r f h =
    mark_of (is_judged (read_of (g.expected (first_file_of r)) f).read.kind (read_of (g.expected (second_file_of r)) h).read.kind)
    (rule_break g.values g.texts r (table_of (g.expected (first_file_of r)) f) (table_of (g.expected (second_file_of r)) h))

-- a rule over a file that a set doesn't have is not judged
unfoldable pub rule_mark_at : Gate → Rule → (ℕ → File) → Mark
rule_mark_at g r files =
    cond (ltb (first_file_of r) g.files && ltb (second_file_of r) g.files) (rule_mark g r (files (first_file_of r)) (files (second_file_of r))) not_judged

-- ---- The mark of a number, and all marks
unfoldable pub mark_at : Gate → ℕ → (ℕ → File) → Mark
mark_at g m files = cond (ltb m g.files) (file_mark (g.expected m) (files m)) (rule_mark_at g (rule_of_mark g m) files)

unfoldable pub full_marks : Gate → (ℕ → File) → Marks
full_marks g files = marks_from (marks_of g) (λ m. mark_at g m files)
