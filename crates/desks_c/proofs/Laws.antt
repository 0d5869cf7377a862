-- A call's own fault, and what a try and a change leave with one and without.
-- Assumes nothing.
use Prim.Native.Nat.{ℕ, ◌≤◌, ◌<◌}
use mathlib.Core.Path.{◌≡◌, refl, sym, ap, ◌∙◌}
use mathlib.Core.Bool.{Bool, true, false, cond}
use mathlib.Core.List.{List}
use native.Mathlib.Omega.{arith}
use borrow.Author.Tests.{eqb-true, eq-eqb, ne_eqb, lt-ltb, le-ltb}
use lib.ListN.{length, set}
use lib.Dec.{eqb, ltb}
use Rattle.mark_numbers.specs.Marks.{Marks}
use Rattle.schedule.specs.Schedule.{schedule}
use Rattle.desks_calls.specs.declared.Whose.{Whose}
use Rattle.desks_calls.specs.Desks.{DesksAnswer}
use Rattle.desks_calls.specs.Lent.{desks_in, desks_output_in, desks_left}
use Rattle.both_desks.specs.declared.Refusals.{Refusals}
use Rattle.both_desks.specs.Refusals.{refusals_of}
use Rattle.desks_c.specs.Calls.{whose_of, file_handed, desks_call_fault, desks_called, refusals_left, size_left, work_called, desks_output_called}

-- ---- the fault, by the tests that the code makes
module _ (refusals size : List ℕ) (whose present : ℕ) where
  pub fault-refusals : (length refusals ≡ 2 → ⊥) → 100 ≡ desks_call_fault refusals size whose present
  unfolding desks_call_fault
  fault-refusals n = rw (ne_eqb (length refusals) 2 n)

  module _ (two : length refusals ≡ 2) where
    pub fault-size : (length size ≡ 1 → ⊥) → 100 ≡ desks_call_fault refusals size whose present
    unfolding desks_call_fault
    fault-size n = rw (eq-eqb (length refusals) 2 two, ne_eqb (length size) 1 n)

    module _ (one : length size ≡ 1) where
      pub fault-whose : 2 < whose → 101 ≡ desks_call_fault refusals size whose present
      unfolding desks_call_fault
      fault-whose l = rw (eq-eqb (length refusals) 2 two, eq-eqb (length size) 1 one, lt-ltb 2 whose l)

      module _ (known : whose ≤ 2) where
        pub fault-present : 1 < present → 101 ≡ desks_call_fault refusals size whose present
        unfolding desks_call_fault
        fault-present l =
            rw (eq-eqb (length refusals) 2 two, eq-eqb (length size) 1 one, le-ltb 2 whose known, lt-ltb 1 present l)

        pub fault-none : present ≤ 1 → 0 ≡ desks_call_fault refusals size whose present
        unfolding desks_call_fault
        fault-none l =
            rw (eq-eqb (length refusals) 2 two, eq-eqb (length size) 1 one, le-ltb 2 whose known, le-ltb 1 present l)

  -- a call without one has lists for what it puts down
  pub lists-fit : {f : ℕ} → f ≡ desks_call_fault refusals size whose present → f ≡ 0 → (length refusals ≡ 2) × (length size ≡ 1)
  unfolding desks_call_fault
  lists-fit is z =
      go (eqb (length refusals) 2) (eqb (length size) 1) (cond (ltb 2 whose) 101 (cond (ltb 1 present) 101 0)) refl refl (sym is ∙ z)
    where
      go : (t u : Bool) (x : ℕ) → eqb (length refusals) 2 ≡ t → eqb (length size) 1 ≡ u → cond t (cond u x 100) 100 ≡ 0 → (length refusals ≡ 2) × (length size ≡ 1)
      go true true x p q z = (eqb-true (length refusals) 2 p, eqb-true (length size) 1 q)
      go true false x p q z = absurd (omega arith)
      go false u x p q z = absurd (omega arith)

-- ---- what a call leaves
module _ (a b shared : List ℕ) (handed_a handed_b : Marks) (whose file present : ℕ) (bytes refusals size work : List ℕ) {f : ℕ} (is : f ≡ desks_call_fault refusals size whose present) where
  abbrev called : ℕ → ℕ → DesksAnswer
  called room fault = desks_called fault a b shared (length work) handed_a handed_b whose file present bytes room

  abbrev Left : ℕ → ℕ → Marks → Marks → List ℕ → List ℕ → List ℕ → Type 0
  Left room fault marks_a marks_b refused long left =
      (marks_a ≡ (called room fault).a.marks)
      × ((marks_b ≡ (called room fault).b.marks)
      × ((refused ≡ refusals_left fault (called room fault) refusals)
      × ((long ≡ size_left fault (called room fault) size)
      × (left ≡ work_called fault a b shared whose file present bytes room (called room fault) work))))

  left-ill : (room : ℕ) → (f ≡ 0 → ⊥) → Left room f handed_a handed_b refusals size work
  unfolding desks_called refusals_left size_left work_called
  left-ill room some = rw (ne_eqb f 0 some) (refl, (refl, (refl, (refl, refl))))

  module _ (none : f ≡ 0) {w : Whose} (w-is : w ≡ whose_of whose) (room : ℕ) where
    abbrev Answered : Refusals → Marks → Marks → List ℕ → Type 0
    Answered answer marks_a marks_b left =
        (answer ≡ refusals_of (desks_in schedule a b shared (length work) handed_a handed_b w file (file_handed present bytes) room))
        × ((marks_a ≡ (desks_in schedule a b shared (length work) handed_a handed_b w file (file_handed present bytes) room).a.marks)
        × ((marks_b ≡ (desks_in schedule a b shared (length work) handed_a handed_b w file (file_handed present bytes) room).b.marks)
        × (left ≡ desks_left schedule a b shared w file (file_handed present bytes) room answer.a answer.b work)))

    left-well : {answer : Refusals} {marks_a marks_b : Marks} {refused long left : List ℕ} → Answered answer marks_a marks_b left
        → (refused ≡ set (set refusals 0 answer.a) 1 answer.b) × (long ≡ set size 0 answer.size)
        → Left room 0 marks_a marks_b refused long left
    unfolding desks_called refusals_left size_left work_called refusals_of
    left-well h (r, s) =
        let g = rw w-is at h in
        (g.1.0, (g.1.1.0, (r ∙ ap (λ (x : Refusals). set (set refusals 0 x.a) 1 x.b) g.0, (s ∙ ap (λ (x : Refusals). set size 0 x.size) g.0, g.1.1.1 ∙ ap (λ (x : Refusals). desks_left schedule a b shared (whose_of whose) file (file_handed present bytes) room x.a x.b work) g.0))))

  abbrev fault : ℕ
  fault = desks_call_fault refusals size whose present

  -- ---- a try
  pub try-ill : (room : ℕ) → (f ≡ 0 → ⊥) → (f ≡ fault) × Left room f handed_a handed_b refusals size work
  try-ill room some = (is, left-ill room some)

  pub try-well : (none : f ≡ 0) {w : Whose} (w-is : w ≡ whose_of whose) (room : ℕ) {answer : Refusals} {marks_a marks_b : Marks} {refused long left : List ℕ} → Answered none w-is room answer marks_a marks_b left
      → (refused ≡ set (set refusals 0 answer.a) 1 answer.b) × (long ≡ set size 0 answer.size)
      → (0 ≡ fault) × Left room 0 marks_a marks_b refused long left
  try-well none w-is room h put = (sym none ∙ is, left-well none w-is room h put)

  -- ---- a change
  module _ (out : List ℕ) where
    abbrev Made : ℕ → Marks → Marks → List ℕ → List ℕ → List ℕ → List ℕ → Type 0
    Made r marks_a marks_b refused long written left =
        (r ≡ fault)
        × ((marks_a ≡ (called (length out) r).a.marks)
        × ((marks_b ≡ (called (length out) r).b.marks)
        × ((refused ≡ refusals_left r (called (length out) r) refusals)
        × ((long ≡ size_left r (called (length out) r) size)
        × ((written ≡ desks_output_called r a b shared (length work) handed_a handed_b whose file present bytes out)
        × (left ≡ work_called r a b shared whose file present bytes (length out) (called (length out) r) work))))))

    pub make-ill : (f ≡ 0 → ⊥) → Made f handed_a handed_b refusals size out work
    unfolding desks_output_called
    make-ill some =
        let e = left-ill (length out) some in
        (is, (e.0, (e.1.0, (e.1.1.0, (e.1.1.1.0, (rw (ne_eqb f 0 some), e.1.1.1.1))))))

    pub make-well : (none : f ≡ 0) {w : Whose} (w-is : w ≡ whose_of whose) {answer : Refusals} {marks_a marks_b : Marks} {refused long written left : List ℕ}
        → (answer ≡ refusals_of (desks_in schedule a b shared (length work) handed_a handed_b w file (file_handed present bytes) (length out)))
        × ((marks_a ≡ (desks_in schedule a b shared (length work) handed_a handed_b w file (file_handed present bytes) (length out)).a.marks)
        × ((marks_b ≡ (desks_in schedule a b shared (length work) handed_a handed_b w file (file_handed present bytes) (length out)).b.marks)
        × ((written ≡ desks_output_in schedule a b shared (length work) handed_a handed_b w file (file_handed present bytes) out)
        × (left ≡ desks_left schedule a b shared w file (file_handed present bytes) (length out) answer.a answer.b work))))
        → (refused ≡ set (set refusals 0 answer.a) 1 answer.b) × (long ≡ set size 0 answer.size)
        → Made 0 marks_a marks_b refused long written left
    unfolding desks_output_called
    make-well none w-is h put =
        let e = left-well none w-is (length out) (h.0, (h.1.0, (h.1.1.0, h.1.1.1.1))) put in
        let o = rw w-is at h.1.1.1.0 in
        (sym none ∙ is, (e.0, (e.1.0, (e.1.1.0, (e.1.1.1.0, (o, e.1.1.1.1))))))
