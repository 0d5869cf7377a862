-- The whole text, and how it stands in an output.
-- Assumes nothing.
use Prim.Native.Nat.{ℕ, ◌≤◌, ◌<◌}
use mathlib.Core.Path.{◌≡◌, sym, ap, ◌∙◌}
use mathlib.Core.Bool.{Bool, true, false, cond, and-false}
use mathlib.Core.List.{List, []}
use native.Mathlib.Omega.{arith}
use borrow.Author.Tests.{le-leb, lt-leb, eq-eqb, ne_eqb}
use lib.ListN.{length, take}
use lib.Dec.{leb}
use Rattle.json_bytes.specs.Ascii.{codes}
use Rattle.output.specs.Output.{output_at, Output, put}
use Rattle.output.proofs.Puts.{put_then, put-as-far}
use Rattle.mark_numbers.specs.Marks.{Marks}
use Rattle.mark_numbers.proofs.Laws.{Long, long-lists}
use Rattle.reason_answer.specs.declared.Reason.{Reason}
use Rattle.report.specs.Report.{counted, last_line, refusal_text}
use Rattle.bundle.specs.declared.Made.{Made}
use Rattle.gate_marks.specs.Gate.{marks_of}
use Rattle.gate_marks.specs.Again.{workspace_of, room_is_there, has_lists}
use Rattle.gate_calls.specs.Calls.{Answer, judgement}
use Rattle.gate_calls.specs.Lent.{lent_fault, judged_in}
use Rattle.gate_calls.specs.Reasons.{reason_of, reason_asked}
use Rattle.gate_calls.proofs.Lent.{lent-judge}
use Rattle.schedule.proofs.Laws.{files-are, marks-are}
use Rattle.baseline.proofs.Laws.{files-are as baseline-files, marks-are as baseline-marks}
use Rattle.contract.proofs.Laws.{files-are as contract-files, marks-are as contract-marks}
use Rattle.gate_lists.specs.declared.Which.{Which}
use Rattle.gate_lists.specs.declared.Which.TheVariants.{Schedule, Baseline, Contract}
use Rattle.gate_lists.specs.Which.{gate_called, made_of}
use Rattle.reason_text.specs.Text.{reason_lines, keepers_of, kept_lines, marks_text, answer_text, reasons_text, reasons_in, front_put}

-- ---- what the gates have in common
pub marks-few : (which : Which) → marks_of (gate_called which) ≤ 96
unfolding gate_called
marks-few Schedule = rw marks-are (omega arith)
marks-few Baseline = rw baseline-marks (omega arith)
marks-few Contract = rw contract-marks (omega arith)

files-few : (which : Which) → (gate_called which).files ≤ 32
unfolding gate_called
files-few Schedule = rw files-are (omega arith)
files-few Baseline = rw baseline-files (omega arith)
files-few Contract = rw contract-files (omega arith)

module _ (which : Which) (lent : ℕ) where
  short : lent < workspace_of (gate_called which) → room_is_there (gate_called which) lent ≡ false
  unfolding room_is_there
  short l = rw (lt-leb (workspace_of (gate_called which)) lent l, and-false (leb (gate_called which).files 32))

  roomy : workspace_of (gate_called which) ≤ lent → room_is_there (gate_called which) lent ≡ true
  unfolding room_is_there
  roomy l = rw (le-leb (gate_called which).files 32 (files-few which), le-leb (workspace_of (gate_called which)) lent l)

-- ---- what is told in a workspace that is long enough
pub told-in-room : (which : Which) {lent : ℕ} → workspace_of (gate_called which) ≤ lent → (s : List ℕ) (m : ℕ) {r : Reason} → r ≡ reason_asked (gate_called which) s lent m → r ≡ reason_of (gate_called which) s m
unfolding reason_asked
told-in-room which {lent} l s m e = e ∙ rw (roomy which lent l)

-- ---- of marks
pub marks-put : (which : Which) (grouped : Bool) (s : List ℕ) (marks : Marks) (o : Output) {p q r t : Output} → p ≡ put o (counted (codes "marks ") (length marks.kinds)) → q ≡ put p (reason_lines which grouped s marks (length marks.kinds)) → r ≡ put q (cond grouped (kept_lines which (keepers_of (gate_called which) s marks) (gate_called which).files) []) → t ≡ put r (last_line marks.kinds) → t ≡ put o (marks_text which grouped s marks)
unfolding marks_text
marks-put which grouped s marks o e f g h =
    put_then o _ (last_line marks.kinds) (put_then o _ (cond grouped (kept_lines which (keepers_of (gate_called which) s marks) (gate_called which).files) []) (put_then o _ (reason_lines which grouped s marks (length marks.kinds)) e f) g) h

-- ---- of a bundle, from lists that were handed in and the marks that came back in them
module _ (which : Which) (grouped : Bool) (s : List ℕ) {lent : ℕ} (room : workspace_of (gate_called which) ≤ lent) (handed : Marks) (long : Long (marks_of (gate_called which)) handed)
    {made : Made} (is : made ≡ made_of (judged_in (gate_called which) s lent handed)) (o : Output) where
  judged : judged_in (gate_called which) s lent handed ≡ judgement (gate_called which) s
  unfolding lent_fault has_lists
  judged =
      lent-judge (gate_called which) lent handed (rw (long-lists (marks_of (gate_called which)) handed long, roomy which lent room)) s

  refusal_is : made.refusal ≡ (judgement (gate_called which) s).refusal
  unfolding made_of
  refusal_is = ap (λ (x : Made). x.refusal) is ∙ ap (λ (x : Answer). x.refusal) judged

  pub refused-put : (made.refusal ≡ 0 → ⊥) → {p : Output} → p ≡ put o (counted (codes "bundle ") made.refusal) → p ≡ put o (reasons_text which grouped s)
  unfolding reasons_text answer_text refusal_text
  refused-put n h = rw (← refusal_is, ne_eqb made.refusal 0 n) h

  pub judged-put : made.refusal ≡ 0 → {marks : Marks} → marks ≡ (judged_in (gate_called which) s lent handed).marks → {p : Output} → p ≡ put o (marks_text which grouped s marks) → p ≡ put o (reasons_text which grouped s)
  unfolding reasons_text answer_text
  judged-put z {marks} e h =
      let m : marks ≡ (judgement (gate_called which) s).marks = e ∙ ap (λ (x : Answer). x.marks) judged in
      rw (eq-eqb (judgement (gate_called which) s).refusal 0 (sym refusal_is ∙ z), ← m) h

-- ---- how it stands in an output
module _ (which : Which) (grouped : Bool) (s : List ℕ) (lent : ℕ) (out : List ℕ) where
  abbrev Stands : List ℕ → ℕ → Type 0
  Stands exit end = (end ≡ length (take (length out) (reasons_in which grouped s lent))) × (exit ≡ front_put (reasons_in which grouped s lent) out)

  stands : {exit : List ℕ} {end : ℕ} {v : List ℕ} → v ≡ reasons_in which grouped s lent → output_at exit end ≡ put (output_at out 0) v → Stands exit end
  unfolding front_put
  stands e h =
      let both = h ∙ ap (put (output_at out 0)) e ∙ put-as-far out (reasons_in which grouped s lent) in
      (ap (λ o. o.place) both, ap (λ o. o.bytes) both)

  -- in a workspace that is too short, and in one that is not
  pub short-stands : {n : ℕ} → n ≡ workspace_of (gate_called which) → lent < n → {exit : List ℕ} {end : ℕ} → output_at exit end ≡ put (output_at out 0) (counted (codes "bundle ") 14) → Stands exit end
  unfolding reasons_in refusal_text
  short-stands e l h = stands (rw (short which lent (omega (arith, e)))) h

  pub text-stands : workspace_of (gate_called which) ≤ lent → {exit : List ℕ} {end : ℕ} → output_at exit end ≡ put (output_at out 0) (reasons_text which grouped s) → Stands exit end
  unfolding reasons_in
  text-stands l h = stands (rw (roomy which lent l)) h
