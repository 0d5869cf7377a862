-- The lent tables describe document 01's gate, and what that gate is in numbers.
-- Assumes nothing.
use Prim.Native.Nat.{ℕ, ◌*◌, ◌≤◌, ◌<◌}
use mathlib.Core.Path.{◌≡◌, refl, ap, ◌∙◌}
use mathlib.Core.Bool.{Bool, true}
use mathlib.Core.List.{List, map, flatten}
use borrow.Author.Tests.{leb-true}
use lib.ListN.{length, get_or}
use lib.Dec.{leb}
use Rattle.parts.specs.Files.{File}
use Rattle.mark_numbers.specs.Marks.{Marks}
use Rattle.table_rows.specs.Rows.{cell_at}
use Rattle.table_rows.proofs.Laws.{up_from, each}
use Rattle.table_fields.specs.Fields.{tables, fields_of, file_type}
use Rattle.table_fields.specs.Flat.{field_rows, field_names, value_places, value_texts}
use Rattle.table_fields.proofs.Facts.{no_fields, fields_back}
use Rattle.table_file.specs.File.{form_from}
use Rattle.table_file.proofs.FaultKinds.{count_of}
use Rattle.rule_shape.specs.declared.Rule.{Rule}
use Rattle.rule_shape.specs.Rule.{rules_in}
use Rattle.schedule_rules.specs.Rules.{rules, rule_rows}
use Rattle.schedule_rules.proofs.Facts.{rows-decode}
use Rattle.schedule_rules.proofs.Opens.{open-rows}
use Rattle.gate_marks.specs.declared.Scope.{Scope}
use Rattle.gate_marks.specs.Gate.{Gate, gate_of, marks_of, gate_from}
use Rattle.gate_marks.specs.Work.{room_for, room_of, room_start}
use Rattle.gate_marks.specs.Again.{workspace_of, can_judge, marks_after, work_afterwards}
use Rattle.gate_marks.proofs.Described.{none, filed, Files, described as gate-described}
use Rattle.reason_answer.specs.declared.Reason.{Reason}
use Rattle.reason.specs.Reason.{reason_in, work_told}
use Rattle.schedule.specs.Schedule.{due, free, expected_files, schedule, form_number, form_row, file_forms}
use Rattle.schedule.specs.Lent.{gate_by}

-- ---- the files
files-below : map (filed file_forms file_type fields_of) (up_from 0 20) ≡ map (λ k. get_or expected_files k none) (up_from 0 20)
unfolding up_from filed cell_at file_forms form_row form_number form_from expected_files due free flatten
files-below = refl

forms-long : length file_forms ≡ 40
unfolding file_forms form_row form_number expected_files due free flatten
forms-long = refl

files-long : length expected_files ≡ 20
unfolding expected_files
files-long = refl

files : Files expected_files file_forms field_rows field_names file_type fields_of 20
files = record { files-long = files-long; forms-long = forms-long; fields_back = fields_back; no_fields = no_fields; below = files-below }

-- ---- the gate by rules that rows of nine numbers decode to, over document 01's files
pub gate-by : (rules : List Rule) (rows : List ℕ) (n : ℕ) → length rules ≡ n → length rows ≡ n * 9 → rules_in rows ≡ rules → gate_by rows ≡ gate_of expected_files rules value_places value_texts
unfolding gate_by
gate-by rules rows n rules-long rows_long decode =
    gate-described files rules rows n rules-long rows_long decode value_places value_texts

-- ---- document 01's gate
rules-long : length rules ≡ 61
unfolding open-rows
rules-long = refl

rows_long : length rule_rows ≡ 61 * 9
unfolding open-rows flatten
rows_long = refl

pub gate-is : gate_by rule_rows ≡ schedule
unfolding schedule
gate-is = gate-by rules rule_rows 61 rules-long rows_long rows-decode

pub files-are : schedule.files ≡ 20
unfolding schedule gate_of
files-are = files-long

pub marks-are : marks_of schedule ≡ 81
unfolding marks_of schedule gate_of
marks-are = rw (files-long, rules-long)

pub workspace-is : workspace_of schedule ≡ 794702
unfolding workspace_of room_start room_of room_for schedule gate_of expected_files due free fields_of tables
workspace-is = refl

-- no table has more fields than a reader takes
few-below : map (λ k. leb (count_of (get_or expected_files k none).form) 64) (up_from 0 20) ≡ map (λ k. true) (up_from 0 20)
unfolding up_from expected_files due free fields_of tables
few-below = refl

pub fields-few : (k : ℕ) → k < schedule.files → count_of (schedule.expected k).form ≤ 64
unfolding schedule gate_of
fields-few k l =
    leb-true (count_of (get_or expected_files k none).form) 64 (each (λ k. leb (count_of (get_or expected_files k none).form) 64) (λ k. true) 20 few-below k (rw files-long at l))

-- ---- as the code has it: what is judged and told by a gate, is by one that is the same
module _ {g h : Gate} (same : g ≡ h) where
  pub judged-as : (scope : Scope) (files : ℕ → File) (lent : ℕ) (handed : Marks) (work : List ℕ) {could : Bool} {marks : Marks} {last : List ℕ}
      → (could ≡ can_judge g lent handed) × ((marks ≡ marks_after g scope files lent handed) × (last ≡ work_afterwards g scope files handed work))
      → (could ≡ can_judge h lent handed) × ((marks ≡ marks_after h scope files lent handed) × (last ≡ work_afterwards h scope files handed work))
  judged-as scope files lent handed work (a, (b, c)) =
      (a ∙ ap (λ g. can_judge g lent handed) same, (b ∙ ap (λ g. marks_after g scope files lent handed) same, c ∙ ap (λ g. work_afterwards g scope files handed work) same))

  pub told-as : (offset : ℕ → ℕ) (files : ℕ → File) (lent m : ℕ) (work : List ℕ) {told : Reason} {last : List ℕ}
      → (told ≡ reason_in g offset files lent m) × (last ≡ work_told g files m work)
      → (told ≡ reason_in h offset files lent m) × (last ≡ work_told h files m work)
  told-as offset files lent m work (a, b) =
      (a ∙ ap (λ g. reason_in g offset files lent m) same, b ∙ ap (λ g. work_told g files m work) same)

-- tables that are the constant ones describe the gate by the rules that are lent
pub described : {forms fields names fixed values texts : List ℕ} (rows : List ℕ) → forms ≡ file_forms → fields ≡ field_rows → names ≡ field_names → fixed ≡ file_type → values ≡ value_places → texts ≡ value_texts → gate_from forms fields names fixed rows values texts ≡ gate_by rows
unfolding gate_by
described rows f d n x v t = rw (f, d, n, x, v, t)

-- and by rules that are document 01's, document 01's
pub by-schedule : {rows : List ℕ} → rows ≡ rule_rows → gate_by rows ≡ schedule
by-schedule r = ap gate_by r ∙ gate-is
