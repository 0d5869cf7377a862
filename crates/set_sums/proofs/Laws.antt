-- How a set that is judged is taken: left out, or with the sums of its tables; and how far these are from zero.
-- Assumes nothing.
use Prim.Native.Nat.{ℕ, ◌≤◌, ◌<◌}
use mathlib.Core.Path.{◌≡◌, refl, ◌∙◌}
use mathlib.Core.Bool.{Bool, true, false, cond, ◌&&◌}
use mathlib.Core.List.{List}
use native.Mathlib.Omega.{arith}
use borrow.Author.Tests.{eq-eqb, ne_eqb, le-leb, lt-leb}
use lib.ListN.{length}
use lib.Dec.{eqb}
use lib.IntN.{pos, nat_abs}
use Rattle.exact_sums.specs.Sums.{whole_at}
use Rattle.exact_sums.proofs.Lists.{whole-at}
use Rattle.element_sums.specs.declared.Sums.{Sums}
use Rattle.element_sums.specs.Sums.{no_sums, sums_in}
use Rattle.element_sums.proofs.Laws.{sums-near}
use Rattle.board.specs.Board.{accepted_board}
use Rattle.gate_calls.specs.Calls.{judgement}
use Rattle.gate_calls.specs.Lent.{judge_left}
use Rattle.schedule.specs.Schedule.{schedule}
use Rattle.gate_boards.specs.declared.Verdict.{Verdict}
use Rattle.gate.specs.Gate.{verdict_of}
use Rattle.set_sums.specs.Set.{assignments_of, resources_of, set_accepted, set_sums, set_sums_in}
use Rattle.set_sums.specs.Work.{tables_left, sums_left}

-- ---- a workspace that is too short
pub too_short : (s work : List ℕ) → length work < 794702 → (no_sums ≡ set_sums_in (length work) s) × (work ≡ sums_left s work)
unfolding set_sums_in sums_left
too_short s work h = (rw (lt-leb 794702 (length work) h), rw (lt-leb 794702 (length work) h))

module _ (s work : List ℕ) (room : 794702 ≤ length work) {v : Verdict 81} (v-is : v ≡ verdict_of (judgement schedule s)) {left : List ℕ} (left_is : left ≡ judge_left schedule s v.refusal work) where
  -- ---- left out
  out-by : set_accepted s ≡ false → (no_sums ≡ set_sums_in (length work) s) × (left ≡ sums_left s work)
  unfolding set_sums_in sums_left set_sums verdict_of
  out-by e = (rw (le-leb 794702 (length work) room, e), left_is ∙ rw (v-is, le-leb 794702 (length work) room, e))

  pub refused-out : (v.refusal ≡ 0 → ⊥) → (no_sums ≡ set_sums_in (length work) s) × (left ≡ sums_left s work)
  unfolding set_accepted
  refused-out h = out-by (rw (← v-is, ne_eqb v.refusal 0 h))

  pub unaccepted-out : {a : Bool} → a ≡ accepted_board v.board → a ≡ false → (no_sums ≡ set_sums_in (length work) s) × (left ≡ sums_left s work)
  unfolding set_accepted
  unaccepted-out e f = out-by (rw (← v-is, ← e, f) (none (eqb v.refusal 0)))
    where
      none : (b : Bool) → (b && false) ≡ false
      none true = refl
      none false = refl

  -- ---- accepted
  pub accepted-in : v.refusal ≡ 0 → {a : Bool} → a ≡ accepted_board v.board → a ≡ true → {r : Sums} → r ≡ sums_in (assignments_of s) (resources_of s) → {last : List ℕ} → last ≡ tables_left s left → (r ≡ set_sums_in (length work) s) × (last ≡ sums_left s work)
  unfolding set_sums_in sums_left set_sums set_accepted
  accepted-in h e f q l =
      (q ∙ rw (← v-is, ← e, f, eq-eqb v.refusal 0 h, le-leb 794702 (length work) room), l ∙ rw (left_is, h, ← v-is, ← e, f, eq-eqb v.refusal 0 h, le-leb 794702 (length work) room))

-- ---- no set adds more than its records can
pub set-near : (s : List ℕ) (i : ℕ) → i < 24 → nat_abs (whole_at (set_sums s).sums i) ≤ 4096000000000000
unfolding set_sums
set-near s i l = go (set_accepted s)
  where
    pick : Bool → Sums
    pick b = cond b (sums_in (assignments_of s) (resources_of s)) no_sums

    go : (b : Bool) → nat_abs (whole_at (pick b).sums i) ≤ 4096000000000000
    go true = sums-near (assignments_of s) (resources_of s) i l
    go false = rw (whole-at (λ j. pos 0) 24 i l) (omega arith)
