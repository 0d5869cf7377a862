-- What the call for a reason answers, from what its steps answer.
-- Assumes nothing.
use Prim.Native.Nat.{ℕ, ◌/◌, ◌≤◌, ◌<◌}
use mathlib.Core.Path.{◌≡◌, refl, sym, ap, ◌∙◌}
use mathlib.Core.Bool.{Bool, true, false, cond, ◌&&◌, and-false}
use mathlib.Core.List.{List}
use native.Mathlib.Omega.{arith}
use borrow.Author.Tests.{lt-leb, le-leb, eq-eqb, ne_eqb}
use lib.ListN.{length}
use lib.Dec.{ltb, leb, eqb}
use Rattle.parts.specs.Files.{File}
use Rattle.standing.specs.Standing.{start_standing}
use Rattle.bundle_layout.specs.Bundle.{bundle_fault, offset_at, file_at}
use Rattle.reason_answer.specs.declared.Reason.{Reason}
use Rattle.reason_answer.specs.declared.Reason.TheVariants.{Refused}
use Rattle.gate_marks.specs.declared.Scope.{Scope}
use Rattle.gate_marks.specs.Gate.{Gate, marks_of}
use Rattle.gate_marks.specs.Again.{is_needed, work_judged, workspace_of, room_is_there}
use Rattle.gate_marks.proofs.Laws.{work-same}
use Rattle.reason.specs.Reason.{reason_at, can_tell, reason_in, work_told}
use Rattle.reason.proofs.Told.{reason-same}
use Rattle.gate_calls.specs.Lent.{work_left}
use Rattle.gate_calls.specs.Reasons.{reason_of, reason_asked, refusal_of, reason_left}
use Rattle.gate_calls.proofs.Reasons.{reason-told}
use Rattle.schedule.proofs.Laws.{marks-are}
use Rattle.baseline.proofs.Laws.{marks-are as baseline-marks}
use Rattle.contract.proofs.Laws.{marks-are as contract-marks}
use Rattle.gate_lists.specs.declared.Which.{Which}
use Rattle.gate_lists.specs.declared.Which.TheVariants.{Schedule, Baseline, Contract}
use Rattle.gate_lists.specs.Which.{gate_called}
use Rattle.gate_lists.specs.Stands.{stands_in}
use Rattle.gate_lists.proofs.Stands.{starts-bundle, offset-fits}
use Rattle.gate_lists.proofs.Answers.{work-untouched}

-- no gate has more marks than there are lists for
pub few-marks : (which : Which) → marks_of (gate_called which) ≤ 128
unfolding gate_called
few-marks Schedule = omega (arith, marks-are)
few-marks Baseline = omega (arith, baseline-marks)
few-marks Contract = omega (arith, contract-marks)

-- ---- where the files of a bundle start, as they were put down
pub bundle-starts : (s b c stand₀ stand : List ℕ) {n : ℕ} (m : ℕ) → n ≡ m → n ≤ length stand₀ / 3 → stand ≡ stands_in s n stand₀ → bundle_fault m s ≡ 0 → (i : ℕ) → i < m → start_standing s b c stand i ≡ offset_at s i
bundle-starts s b c stand₀ stand m n-is room e fine i l =
    rw e (starts-bundle s stand₀ b c _ room i (rw n-is l) (offset-fits s stand₀ b c m fine i l))

-- ---- the answer
module _ (g : Gate) (s : List ℕ) (m : ℕ) (work : List ℕ) {room : ℕ} (room-is : room ≡ workspace_of g) where
  abbrev Asked : Reason → List ℕ → Type 0
  Asked told last = (told ≡ reason_asked g s (length work) m) × (last ≡ reason_left g s m told work)

  refused-left : (refusal : ℕ) → (refusal ≡ 0 → ⊥) → work ≡ reason_left g s m (Refused refusal) work
  unfolding reason_left refusal_of
  refused-left refusal some = work-untouched g (Scope.Mark m) (file_at s) work refusal some

  pub asked-short : length work < room → Asked (Refused 14) work
  unfolding reason_asked room_is_there
  asked-short l =
      (rw (lt-leb (workspace_of g) (length work) (omega arith), and-false (leb g.files 32)), refused-left 14 (λ e. omega arith))

  module _ (long : room ≤ length work) {n : ℕ} (n-is : n ≡ g.files) (few : n ≤ 32) {fault : ℕ} (fault-is : fault ≡ bundle_fault n s) where
    has_room : room_is_there g (length work) ≡ true
    unfolding room_is_there
    has_room = rw (le-leb g.files 32 (omega arith), le-leb (workspace_of g) (length work) (omega arith))

    by-gate : bundle_fault g.files s ≡ fault
    by-gate = sym (fault-is ∙ ap (λ x. bundle_fault x s) n-is)

    pub asked-refused : (fault ≡ 0 → ⊥) → Asked (Refused fault) work
    unfolding reason_asked reason_of
    asked-refused some = (rw (has_room, by-gate, ne_eqb fault 0 some), refused-left fault some)

    module _ (fine : fault ≡ 0) (files : ℕ → File) (offset : ℕ → ℕ) (same : (i : ℕ) → i < g.files → files i ≡ file_at s i) (starts : (i : ℕ) → i < g.files → offset i ≡ offset_at s i) (small : marks_of g ≤ 128) where
      told-fine : reason_asked g s (length work) m ≡ cond (ltb m (marks_of g)) (reason_at g (offset_at s) (file_at s) m) (Refused 7)
      unfolding reason_asked reason_of
      told-fine = rw (has_room, by-gate, eq-eqb fault 0 fine)

      can-tell : can_tell g (length work) ≡ true
      unfolding can_tell
      can-tell = rw (has_room, le-leb (marks_of g) 128 small)

      told-there : reason_in g offset files (length work) m ≡ cond (ltb m (marks_of g)) (reason_at g (offset_at s) (file_at s) m) (Refused 7)
      unfolding reason_in
      told-there = rw (can-tell, reason-same g m offset (offset_at s) files (file_at s) (λ k l _. (same k l, starts k l)))

      left_there : work_told g files m work ≡ cond (ltb m (marks_of g)) (work_judged g (Scope.Mark m) (file_at s) work) work
      unfolding work_told work_judged
      left_there =
          go (ltb m (marks_of g)) (work-same _ g.expected (is_needed g (Scope.Mark m)) files (file_at s) work g.files same)
        where
          go : (t : Bool) {a b : List ℕ} → a ≡ b → cond (t && can_tell g (length work)) a work ≡ cond t b work
          go true e = rw can-tell e
          go false e = refl

      left-asked : reason_left g s m (cond (ltb m (marks_of g)) (reason_at g (offset_at s) (file_at s) m) (Refused 7)) work ≡ cond (ltb m (marks_of g)) (work_judged g (Scope.Mark m) (file_at s) work) work
      unfolding reason_left work_left refusal_of
      left-asked = go (ltb m (marks_of g))
        where
          go : (t : Bool) → cond (eqb (refusal_of (cond t (reason_at g (offset_at s) (file_at s) m) (Refused 7))) 0) (work_judged g (Scope.Mark m) (file_at s) work) work ≡ cond t (work_judged g (Scope.Mark m) (file_at s) work) work
          go true = rw (reason-told g (offset_at s) (file_at s) m)
          go false = refl

      pub asked-told : {told : Reason} {last : List ℕ} → (told ≡ reason_in g offset files (length work) m) × (last ≡ work_told g files m work) → Asked told last
      asked-told {told} {last} are =
          let told_is : told ≡ cond (ltb m (marks_of g)) (reason_at g (offset_at s) (file_at s) m) (Refused 7) = are.0 ∙ told-there in
          (told_is ∙ sym told-fine, are.1 ∙ left_there ∙ sym left-asked ∙ ap (λ x. reason_left g s m x work) (sym told_is))
