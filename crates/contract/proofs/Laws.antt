-- The lent tables describe the contract side's gate, and what that gate is in numbers.
-- Assumes nothing.
use Prim.Native.Nat.{ℕ, ◌≤◌, ◌<◌}
use mathlib.Core.Path.{◌≡◌, refl}
use mathlib.Core.Bool.{true}
use mathlib.Core.List.{List, [], map, flatten}
use borrow.Author.Tests.{leb-true}
use lib.ListN.{length, get_or}
use lib.Dec.{leb}
use Rattle.table_rows.specs.Rows.{cell_at}
use Rattle.table_rows.proofs.Laws.{up_from, each}
use Rattle.table_file.specs.File.{form_from}
use Rattle.table_file.proofs.FaultKinds.{count_of}
use Rattle.contract_fields.specs.Fields.{contract_tables, contract_fields_of, contract_field_rows, contract_field_names}
use Rattle.contract_fields.proofs.Facts.{no_fields, fields_back}
use Rattle.contract_rules.specs.Rules.{contract_rules, contract_rule_rows}
use Rattle.contract_rules.proofs.Facts.{rows-decode, rows-count, rules-count}
use Rattle.gate_marks.specs.Gate.{gate_of, marks_of, gate_from}
use Rattle.gate_marks.specs.Work.{room_for, room_of, room_start}
use Rattle.gate_marks.specs.Again.{workspace_of}
use Rattle.gate_marks.proofs.Described.{none, filed, Files, described}
use Rattle.schedule.specs.Schedule.{free, form_number, form_row}
use Rattle.contract.specs.Contract.{contract_files, contract, contract_forms}

-- ---- the files
files-below : map (filed contract_forms [] contract_fields_of) (up_from 0 4) ≡ map (λ k. get_or contract_files k none) (up_from 0 4)
unfolding up_from filed cell_at contract_forms form_row form_number form_from contract_files free flatten
files-below = refl

forms-long : length contract_forms ≡ 8
unfolding contract_forms form_row form_number contract_files free flatten
forms-long = refl

files-long : length contract_files ≡ 4
unfolding contract_files
files-long = refl

files : Files contract_files contract_forms contract_field_rows contract_field_names [] contract_fields_of 4
files = record { files-long = files-long; forms-long = forms-long; fields_back = fields_back; no_fields = no_fields; below = files-below }

-- tables that are the constant ones, and empty ones, describe this gate
pub by-contract : {forms fields names fixed rules values texts : List ℕ} → forms ≡ contract_forms → fields ≡ contract_field_rows → names ≡ contract_field_names → fixed ≡ [] → rules ≡ contract_rule_rows → values ≡ [] → texts ≡ [] → gate_from forms fields names fixed rules values texts ≡ contract
unfolding contract
by-contract f d n x r v t =
    rw (f, d, n, x, r, v, t) (described files contract_rules contract_rule_rows 15 rules-count rows-count rows-decode [] [])

-- ---- in numbers
pub files-are : contract.files ≡ 4
unfolding contract gate_of
files-are = files-long

-- "with 19 marks"
pub marks-are : marks_of contract ≡ 19
unfolding marks_of contract gate_of
marks-are = rw (files-long, rules-count)

pub workspace-is : workspace_of contract ≡ 188416
unfolding workspace_of room_start room_of room_for contract gate_of contract_files free contract_fields_of contract_tables
workspace-is = refl

-- no table has more fields than a reader takes
few-below : map (λ k. leb (count_of (get_or contract_files k none).form) 64) (up_from 0 4) ≡ map (λ k. true) (up_from 0 4)
unfolding up_from contract_files free contract_fields_of contract_tables
few-below = refl

pub fields-few : (k : ℕ) → k < contract.files → count_of (contract.expected k).form ≤ 64
unfolding contract gate_of
fields-few k l =
    leb-true (count_of (get_or contract_files k none).form) 64 (each (λ k. leb (count_of (get_or contract_files k none).form) 64) (λ k. true) 4 few-below k (rw files-long at l))
