-- The profile's gate in numbers, and as the code has it.
-- Assumes nothing.
use Prim.Native.Nat.{ℕ, ◌≤◌, ◌<◌}
use mathlib.Core.Path.{◌≡◌, refl, ap, ◌∙◌}
use mathlib.Core.List.{List}
use Rattle.table_file.proofs.FaultKinds.{count_of}
use Rattle.gate_marks.specs.Gate.{gate_of, marks_of}
use Rattle.gate_marks.specs.Again.{workspace_of}
use Rattle.schedule.specs.Schedule.{schedule}
use Rattle.schedule.specs.Lent.{gate_by}
use Rattle.schedule.proofs.Laws.{gate-by, files-are as schedule-files, workspace-is as schedule-workspace, fields-few as schedule-few}
use Rattle.baseline_rules.specs.Rules.{baseline_rules, baseline_rows}
use Rattle.baseline_rules.proofs.Facts.{rows-decode, rows-count, rules-count}
use Rattle.baseline.specs.Baseline.{baseline}

-- rules that are the profile's describe this gate
pub by-baseline : {rows : List ℕ} → rows ≡ baseline_rows → gate_by rows ≡ baseline
unfolding baseline
by-baseline r = ap gate_by r ∙ gate-by baseline_rules baseline_rows 65 rules-count rows-count rows-decode

-- ---- the files are document 01's
pub same-files : baseline.files ≡ schedule.files
unfolding baseline schedule gate_of
same-files = refl

pub files-are : baseline.files ≡ 20
files-are = same-files ∙ schedule-files

pub marks-are : marks_of baseline ≡ 85
unfolding marks_of baseline gate_of
marks-are = rw (files-are, rules-count)

pub workspace-is : workspace_of baseline ≡ 794702
unfolding workspace_of baseline schedule gate_of
workspace-is = schedule-workspace

-- no table has more fields than a reader takes
pub fields-few : (k : ℕ) → k < baseline.files → count_of (baseline.expected k).form ≤ 64
unfolding baseline schedule gate_of
fields-few k l = schedule-few k l
