-- Of every broken mark of the profile, what is told, what it means and the bytes that are handed back, as of document 01's gate:
-- the record shown breaks the rule and no earlier one does, the field decides it, and the value is that field's.
-- Assumes nothing.
use Prim.Native.Nat.{ℕ, ◌-◌, ◌≤◌, ◌<◌}
use mathlib.Core.Path.{◌≡◌, refl}
use mathlib.Core.Bool.{Bool, true, false}
use mathlib.Core.List.{List, [], map}
use native.Mathlib.Omega.{arith}
use borrow.Author.Tests.{leb-true}
use lib.ListN.{length, get_or}
use lib.Dec.{leb}
use Rattle.parts.specs.Files.{bytes_of}
use Rattle.table_rows.proofs.Laws.{up_from, each}
use Rattle.table_fields.specs.Fields.{fields_of, tables}
use Rattle.table_file.specs.File.{Expected, expected_from}
use Rattle.rule_shape.specs.Rule.{first_file_of, rule_from}
use Rattle.rule_reason.specs.Reason.{searched_in}
use Rattle.baseline_rules.specs.Rules.{baseline_rules}
use Rattle.baseline_rules.proofs.Opens.{open-baseline-rows}
use Rattle.bundle_layout.specs.Bundle.{bundle_fault, offset_at, file_at}
use Rattle.reason_answer.specs.declared.Shown.{Shown}
use Rattle.gate_marks.specs.Gate.{gate_of, rule_of_mark}
use Rattle.gate_marks.specs.Marks.{mark_at}
use Rattle.reason.specs.Reason.{broken_by}
use Rattle.reason.proofs.Laws.{shown}
use Rattle.gate_calls.specs.Reasons.{reason_of, value_shown}
use Rattle.schedule.specs.Schedule.{due, free, expected_files}
use Rattle.baseline.specs.Baseline.{baseline}
use Rattle.baseline.proofs.Laws.{files-are, marks-are}
use Rattle.reason_meaning.specs.Explains.{form_fields, BytesOf, Explains, fields_end}
use Rattle.reason_meaning.proofs.Explained.{explained}
use Rattle.reason_meaning.proofs.Bundles.{broken-told, value-told, bytes-shown}

-- ---- the profile's rules name fields that their tables have
abbrev none : Expected
none = expected_from 0 false [] []

fits-at : ℕ → Bool
fits-at i = leb (fields_end (get_or baseline_rules i (rule_from [] 0))) (length (form_fields (get_or expected_files (first_file_of (get_or baseline_rules i (rule_from [] 0))) none).form))

fits_below : map fits-at (up_from 0 65) ≡ map (λ i. true) (up_from 0 65)
unfolding fits-at up_from fields_end form_fields first_file_of expected_files due free fields_of tables open-baseline-rows
fits_below = refl

pub baseline-fits : (m : ℕ) → 20 ≤ m → m < 85 → fields_end (rule_of_mark baseline m) ≤ length (form_fields (baseline.expected (first_file_of (rule_of_mark baseline m))).form)
unfolding baseline gate_of fits-at
baseline-fits m l h = rw files-are (leb-true _ _ (each fits-at (λ i. true) 65 fits_below (m - 20) (omega arith)))

module _ (s : List ℕ) (fine : bundle_fault 20 s ≡ 0) (m : ℕ) (l : 20 ≤ m) (h : m < 85) (e : (mark_at baseline m (file_at s)).kind ≡ 1) where
  abbrev what : Shown
  what = shown baseline (offset_at s) (file_at s) m

  pub baseline-told : reason_of baseline s m ≡ broken_by (searched_in (rule_of_mark baseline m)) what
  baseline-told = broken-told baseline s (rw files-are fine) m (rw files-are l) e (rw marks-are h)

  pub baseline-explained : Explains baseline (offset_at s) (file_at s) m what
  baseline-explained = explained baseline (offset_at s) (file_at s) m (rw files-are l) e (baseline-fits m l h)

  pub baseline-value : BytesOf (baseline-explained.means.gives baseline-explained.r baseline-explained.shows.inside).members (bytes_of (file_at s (first_file_of (rule_of_mark baseline m)))) what.field (value_shown s (reason_of baseline s m))
  baseline-value =
      rw (value-told baseline s (rw files-are fine) m (rw files-are l) e (rw marks-are h)) (bytes-shown baseline s (rw files-are fine) m (rw files-are l) e what baseline-explained)
