-- Of every broken mark of the contract side, what is told, what it means and the bytes that are handed back, as of document 01's gate:
-- the record shown breaks the rule and no earlier one does, the field decides it, and the value is that field's.
-- Assumes nothing.
use Prim.Native.Nat.{ℕ, ◌-◌, ◌≤◌, ◌<◌}
use mathlib.Core.Path.{◌≡◌, refl}
use mathlib.Core.Bool.{Bool, true, false}
use mathlib.Core.List.{List, [], map}
use native.Mathlib.Omega.{arith}
use borrow.Author.Tests.{leb-true}
use lib.ListN.{length, get_or}
use lib.Dec.{leb}
use Rattle.parts.specs.Files.{bytes_of}
use Rattle.table_rows.proofs.Laws.{up_from, each}
use Rattle.contract_fields.specs.Fields.{contract_fields_of, contract_tables}
use Rattle.table_file.specs.File.{Expected, expected_from}
use Rattle.rule_shape.specs.Rule.{first_file_of, rule_from}
use Rattle.rule_reason.specs.Reason.{searched_in}
use Rattle.contract_rules.specs.Rules.{contract_rules}
use Rattle.contract_rules.proofs.Opens.{open-contract-rows}
use Rattle.bundle_layout.specs.Bundle.{bundle_fault, offset_at, file_at}
use Rattle.reason_answer.specs.declared.Shown.{Shown}
use Rattle.gate_marks.specs.Gate.{gate_of, rule_of_mark}
use Rattle.gate_marks.specs.Marks.{mark_at}
use Rattle.reason.specs.Reason.{broken_by}
use Rattle.reason.proofs.Laws.{shown}
use Rattle.gate_calls.specs.Reasons.{reason_of, value_shown}
use Rattle.schedule.specs.Schedule.{free}
use Rattle.contract.specs.Contract.{contract_files, contract}
use Rattle.contract.proofs.Laws.{files-are, marks-are}
use Rattle.reason_meaning.specs.Explains.{form_fields, BytesOf, Explains, fields_end}
use Rattle.reason_meaning.proofs.Explained.{explained}
use Rattle.reason_meaning.proofs.Bundles.{broken-told, value-told, bytes-shown}

-- ---- the rules name fields that their tables have
abbrev none : Expected
none = expected_from 0 false [] []

fits-at : ℕ → Bool
fits-at i = leb (fields_end (get_or contract_rules i (rule_from [] 0))) (length (form_fields (get_or contract_files (first_file_of (get_or contract_rules i (rule_from [] 0))) none).form))

fits_below : map fits-at (up_from 0 15) ≡ map (λ i. true) (up_from 0 15)
unfolding fits-at up_from fields_end form_fields first_file_of contract_files free contract_fields_of contract_tables open-contract-rows
fits_below = refl

pub contract-fits : (m : ℕ) → 4 ≤ m → m < 19 → fields_end (rule_of_mark contract m) ≤ length (form_fields (contract.expected (first_file_of (rule_of_mark contract m))).form)
unfolding contract gate_of fits-at
contract-fits m l h = rw files-are (leb-true _ _ (each fits-at (λ i. true) 15 fits_below (m - 4) (omega arith)))

module _ (s : List ℕ) (fine : bundle_fault 4 s ≡ 0) (m : ℕ) (l : 4 ≤ m) (h : m < 19) (e : (mark_at contract m (file_at s)).kind ≡ 1) where
  abbrev what : Shown
  what = shown contract (offset_at s) (file_at s) m

  pub contract-told : reason_of contract s m ≡ broken_by (searched_in (rule_of_mark contract m)) what
  contract-told = broken-told contract s (rw files-are fine) m (rw files-are l) e (rw marks-are h)

  pub contract-explained : Explains contract (offset_at s) (file_at s) m what
  contract-explained = explained contract (offset_at s) (file_at s) m (rw files-are l) e (contract-fits m l h)

  pub contract-value : BytesOf (contract-explained.means.gives contract-explained.r contract-explained.shows.inside).members (bytes_of (file_at s (first_file_of (rule_of_mark contract m)))) what.field (value_shown s (reason_of contract s m))
  contract-value =
      rw (value-told contract s (rw files-are fine) m (rw files-are l) e (rw marks-are h)) (bytes-shown contract s (rw files-are fine) m (rw files-are l) e what contract-explained)
