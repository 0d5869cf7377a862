-- The entries of document 01's gate: the constant tables describe it.
-- Assumes nothing.
use Prim.Native.Nat.{ℕ, ◌/◌, ◌≤◌, ◌<◌}
use mathlib.Core.Path.{◌≡◌, refl, sym, ap, ◌∙◌}
use mathlib.Core.List.{List}
use native.Mathlib.Omega.{arith}
use borrow.Author.Tests.{lt-leb, le-leb}
use lib.ListN.{length}
use Rattle.parts.specs.Files.{File}
use Rattle.table_fields.specs.Fields.{file_type}
use Rattle.table_fields.specs.Flat.{field_rows, field_names}
use Rattle.rule_shape.specs.Rule.{rule_from}
use Rattle.schedule_rules.specs.Rules.{rule_rows}
use Rattle.gate_marks.specs.declared.Scope.{Scope}
use Rattle.gate_marks.specs.Gate.{Gate, expected_in, gate_from}
use Rattle.gate_marks.specs.Again.{needed, is_needed}
use Rattle.schedule.specs.Schedule.{file_forms, schedule}
use Rattle.schedule.specs.Lent.{gate_by}
use Rattle.schedule.proofs.Laws.{gate-is, files-are, workspace-is}
use Rattle.set_entries.specs.Entries.{entries_up_to, set_entries}
use Rattle.set_entries.specs.Work.{listed_up_to, list_space_of, set_listed, count_listed, work_listed}

pub space-is : list_space_of schedule ≡ 1056846
unfolding list_space_of
space-is = rw workspace-is

module _ (scope : Scope) (files : ℕ → File) (work : List ℕ) where
  abbrev Lists : ℕ → List ℕ → Type 0
  Lists r last = (r ≡ count_listed schedule scope files (length work)) × (last ≡ work_listed schedule scope files work)

  pub set-short : length work < 1056846 → Lists 0 work
  unfolding count_listed work_listed
  set-short l = rw (lt-leb (list_space_of schedule) (length work) (rw space-is l)) (refl, refl)

  module _ {forms fields names fixed rules : List ℕ} (forms-are : forms ≡ file_forms) (fields-are : fields ≡ field_rows) (names-are : names ≡ field_names) (fixed-is : fixed ≡ file_type) (rules-are : rules ≡ rule_rows) where
    pub few-forms : length forms / 2 ≤ 32
    unfolding gate_by gate_from
    few-forms =
        let n : length file_forms / 2 ≡ 20 = ap (λ (g : Gate). g.files) gate-is ∙ files-are in
        rw (forms-are, n) (omega arith)

    count-as : length (entries_up_to (expected_in forms fields names fixed) (needed (length forms / 2) (length rules / 9) (rule_from rules) scope) files 16) ≡ length (set_entries schedule scope files)
    unfolding set_entries gate_by gate_from
    count-as = rw (forms-are, fields-are, names-are, fixed-is, rules-are) (ap (λ (g : Gate). length (entries_up_to g.expected (is_needed g scope) files 16)) gate-is)

    listed-as : listed_up_to (expected_in forms fields names fixed) (needed (length forms / 2) (length rules / 9) (rule_from rules) scope) files 794702 16 work ≡ set_listed schedule scope files work
    unfolding set_listed gate_by gate_from
    listed-as = rw (forms-are, fields-are, names-are, fixed-is, rules-are) (ap (λ (g : Gate). listed_up_to g.expected (is_needed g scope) files 794702 16 work) gate-is ∙ rw workspace-is)

    pub set_all : 1056846 ≤ length work → {r : ℕ} {last : List ℕ} → (r ≡ length (entries_up_to (expected_in forms fields names fixed) (needed (length forms / 2) (length rules / 9) (rule_from rules) scope) files 16)) × (last ≡ listed_up_to (expected_in forms fields names fixed) (needed (length forms / 2) (length rules / 9) (rule_from rules) scope) files 794702 16 work)
        → Lists r last
    unfolding count_listed work_listed
    set_all l are =
        (are.0 ∙ count-as ∙ sym (rw (le-leb (list_space_of schedule) (length work) (rw space-is l))), are.1 ∙ listed-as ∙ sym (rw (le-leb (list_space_of schedule) (length work) (rw space-is l))))
