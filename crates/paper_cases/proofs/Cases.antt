-- The cases (P) of document 01, "Both sides of each line", as one statement over their list: the definitions answer what
-- the paper states, by computation. Assumes nothing.
use mathlib.Core.Path.{◌≡◌, refl}
use mathlib.Core.List.{map}
use Rattle.table_file.proofs.Opens.{open-files}
use Rattle.rules.proofs.Opens.{open-rules}
use Rattle.schedule_rules.proofs.Opens.{open-rows}
use Rattle.gate_marks.specs.Gate.{gate_of, marks_of, mark_reads}
use Rattle.schedule.specs.Schedule.{due, free, expected_files, schedule}
use Rattle.paper_cases.specs.Cases.{Case, reading, paper_file_mark, paper_table, paper_rule_mark, natural, ordinal_in, parents_in, paper_marks, paper_touched, coming_back, quoted, records_text, array_text, with_id, with_name, with_comments, with_ordinal, with_hours, with_date, with_level, cases}

pub paper-cases : map (λ (c : Case). c.answered) cases ≡ map (λ (c : Case). c.stated) cases
unfolding open-files open-rules open-rows gate_of marks_of mark_reads due free expected_files schedule reading paper_file_mark paper_table paper_rule_mark natural ordinal_in parents_in paper_marks paper_touched coming_back quoted records_text array_text with_id with_name with_comments with_ordinal with_hours with_date with_level cases
paper-cases = refl
