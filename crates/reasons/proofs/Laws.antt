-- What is printed, from what the writers of the text ensure.
-- Assumes nothing.
use Prim.Native.Nat.{ℕ, ◌≤◌, ◌<◌}
use mathlib.Core.Path.{◌≡◌, ap, ◌∙◌}
use mathlib.Core.Bool.{true, false}
use mathlib.Core.List.{List}
use native.Mathlib.Omega.{arith}
use borrow.Author.Tests.{le-leb, lt-ltb, le-ltb}
use lib.ListN.{length, take, drop}
use lib.Seq.{take-append_seam}
use Rattle.json_bytes.specs.Ascii.{codes}
use Rattle.output.specs.Output.{output_at, put}
use Rattle.output.proofs.Puts.{put-as-far}
use Rattle.report.specs.Report.{counted, refusal_text}
use Rattle.gate_marks.specs.Again.{room_is_there}
use Rattle.gate_lists.specs.declared.Which.{Which}
use Rattle.gate_lists.specs.declared.Which.TheVariants.{Schedule, Baseline, Contract}
use Rattle.gate_lists.specs.Which.{gate_called}
use Rattle.schedule.proofs.Laws.{files-are, workspace-is}
use Rattle.baseline.proofs.Laws.{files-are as baseline-files, workspace-is as baseline-workspace}
use Rattle.contract.proofs.Laws.{files-are as contract-files, workspace-is as contract-workspace}
use Rattle.reason_text.specs.Text.{reasons_in, front_put}
use Rattle.reasons.specs.Printed.{printed}

-- a bundle that is too long
pub too_long : (which : Which) (s out : List ℕ) → 65536 < length s → {exit : List ℕ} {r : ℕ} → output_at exit r ≡ put (output_at out 0) (counted (codes "bundle ") 1) → take r exit ≡ take (length out) (printed which s)
unfolding printed refusal_text
too_long which s out l h =
    let v = counted (codes "bundle ") 1 in
    let both = h ∙ put-as-far out v in
    rw (lt-ltb 65536 (length s) l, ap (λ o. o.place) both, ap (λ o. o.bytes) both) (take-append_seam (take (length out) v) (drop (length v) out))

-- and any other, in a workspace of the program's own, which is enough for each gate
has_room : (which : Which) (lent : ℕ) → lent ≡ 794702 → room_is_there (gate_called which) lent ≡ true
unfolding room_is_there gate_called
has_room Schedule lent e = rw (workspace-is, le-leb 794702 lent (omega arith), files-are)
has_room Baseline lent e = rw (baseline-workspace, le-leb 794702 lent (omega arith), baseline-files)
has_room Contract lent e = rw (contract-workspace, le-leb 188416 lent (omega arith), contract-files)

own-text : (which : Which) (s : List ℕ) (lent : ℕ) → length s ≤ 65536 → lent ≡ 794702 → reasons_in which false s lent ≡ printed which s
unfolding printed reasons_in
own-text which s lent l e = rw (le-ltb 65536 (length s) l, has_room which lent e)

pub text-read : (which : Which) (s out : List ℕ) (lent : ℕ) → length s ≤ 65536 → lent ≡ 794702 → {exit : List ℕ} {r : ℕ} → r ≡ length (take (length out) (reasons_in which false s lent)) → exit ≡ front_put (reasons_in which false s lent) out → take r exit ≡ take (length out) (printed which s)
unfolding front_put
text-read which s out lent l w e f =
    let v = reasons_in which false s lent in
    rw (e, f) (take-append_seam (take (length out) v) (drop (length v) out)) ∙ ap (take (length out)) (own-text which s lent l w)
