-- What the calls over a drawer answer, as the code comes to it.
-- Assumes nothing.
use Prim.Native.Nat.{ℕ, ◌<◌}
use mathlib.Core.Path.{◌≡◌, refl, sym, ap, ◌∙◌}
use mathlib.Core.Bool.{Bool, true, false, cond, not}
use mathlib.Core.List.{List}
use native.Mathlib.Omega.{arith}
use borrow.Author.Tests.{eq-eqb, ne_eqb, eqb-true, eqb-false}
use lib.ListN.{length}
use lib.Dec.{eqb}
use Rattle.json_bytes.proofs.Laws.{by-test}
use Rattle.parts.specs.Files.{File}
use Rattle.mark_numbers.specs.Marks.{Marks, fresh_marks, fresh_over}
use Rattle.mark_numbers.proofs.Laws.{Long, lists-long, fresh-over}
use Rattle.bundle_layout.specs.Bundle.{file_at}
use Rattle.bundle_layout.specs.Change.{files_after}
use Rattle.gate_marks.specs.declared.Scope.TheVariants.{Full, Change}
use Rattle.gate_marks.specs.Gate.{Gate, marks_of}
use Rattle.gate_marks.specs.Marks.{full_marks}
use Rattle.gate_marks.specs.Again.{room_is_there, has_lists, marks_after, work_afterwards, work_judged}
use Rattle.gate_calls.specs.Calls.{changed_marks}
use Rattle.gate_calls.specs.Lent.{lent_fault, judge_left, change_left}
use Rattle.gate_lists.proofs.Answers.{judged-marks, judged-work, all_new, change-new, work-untouched, work-judged, lists-even}
use Rattle.drawer_held.specs.Drawer.{drawer_fault, drawer_change_fault, drawer_made}
use Rattle.drawer_held.proofs.Laws.{change-none}
use Rattle.drawer_calls.specs.Calls.{drawer_answer, drawer_judged, drawer_changed}
use Rattle.drawer_calls.specs.Lent.{drawer_judged_in, drawer_changed_in, drawer_made_in}
use Rattle.drawer_calls.proofs.Lent.{changed-well, changed-not, lent-judge, lent-change, lent-refused}

-- the number of the slice that a new file stands in
pub new-number : (present : Bool) {which : ℕ} → which ≡ cond (not present) 0 2 → which ≡ cond present 2 0
new-number true e = e
new-number false e = e

-- ---- judged in full
module _ (g : Gate) (files-are : g.files ≡ 20) (d : List ℕ) (handed : Marks) (work : List ℕ) {fault : ℕ} (is : fault ≡ lent_fault g (length work) handed) where
  abbrev Judged : ℕ → Marks → List ℕ → Type 0
  Judged refusal marks last =
      (refusal ≡ (drawer_judged_in g d (length work) handed).refusal) × ((marks ≡ (drawer_judged_in g d (length work) handed).marks) × (last ≡ judge_left g d refusal work))

  by_answer : (refusal : ℕ) (marks : Marks) (last : List ℕ) → drawer_judged_in g d (length work) handed ≡ drawer_answer refusal marks → last ≡ judge_left g d refusal work → Judged refusal marks last
  by_answer refusal marks last e w = (sym (ap (λ x. x.refusal) e), (sym (ap (λ x. x.marks) e), w))

  -- 100 is given for the lists alone
  pub judge-wrong : fault ≡ 100 → Judged 100 handed work
  unfolding lent_fault drawer_judged_in judge_left
  judge-wrong e = by_answer 100 handed work (go (has_lists g handed) (room_is_there g (length work)) (sym is ∙ e)) (work-untouched g Full (file_at d) work 100 (λ z. omega (arith, z)))
    where
      go : (l r : Bool) → ◌≡◌ {A = ℕ} (cond l (cond r 0 14) 100) 100 → cond l (cond r (drawer_judged g d) (drawer_answer 14 (fresh_marks (marks_of g)))) (drawer_answer 100 handed) ≡ drawer_answer 100 handed
      go true true z = absurd (omega (arith, z))
      go true false z = absurd (omega (arith, z))
      go false r z = refl

  module _ (right : fault ≡ 100 → ⊥) {refusal : ℕ} (by : refusal ≡ cond (eqb fault 0) (drawer_fault 20 d) fault) where
    -- refused as 14 or by the drawer: every mark not judged
    refused-is : (refusal ≡ 0 → ⊥) → drawer_judged_in g d (length work) handed ≡ drawer_answer refusal (fresh_marks (marks_of g))
    unfolding lent_fault drawer_judged_in drawer_judged
    refused-is some = go (has_lists g handed) (room_is_there g (length work)) is
      where
        go : (l r : Bool) → fault ≡ cond l (cond r 0 14) 100
            → cond l (cond r (cond (eqb (drawer_fault g.files d) 0) (drawer_answer 0 (full_marks g (file_at d))) (drawer_answer (drawer_fault g.files d) (fresh_marks (marks_of g)))) (drawer_answer 14 (fresh_marks (marks_of g)))) (drawer_answer 100 handed)
            ≡ drawer_answer refusal (fresh_marks (marks_of g))
        go true true q =
            let b : drawer_fault g.files d ≡ refusal = rw files-are (sym (by ∙ rw q)) in
            rw (b, ne_eqb refusal 0 some)
        go true false q =
            let b : refusal ≡ 14 = by ∙ rw q in
            rw b
        go false r q = absurd (right q)

    lists-there : (t : Bool) → has_lists g handed ≡ t → has_lists g handed ≡ true
    unfolding lent_fault
    lists-there true e = e
    lists-there false e = absurd (right (is ∙ rw e))

    long : Long (marks_of g) handed
    unfolding has_lists
    long = lists-long (marks_of g) handed (lists-there (has_lists g handed) refl)

    pub judge-fresh : (refusal ≡ 0 → ⊥) → {marks : Marks} → marks ≡ fresh_over handed → Judged refusal marks work
    unfolding judge_left
    judge-fresh some {marks} m =
        by_answer refusal marks work
        (refused-is some ∙ ap (drawer_answer refusal) (sym (m ∙ fresh-over handed (lists-even g (length work) handed is right) ∙ ap fresh_marks long.kinds-long)))
        (work-untouched g Full (file_at d) work refusal some)

    -- not refused: the marks of the files
    module _ (fine : refusal ≡ 0) where
      room-there : lent_fault g (length work) handed ≡ 0
      room-there = go (eqb fault 0) refl
        where
          go : (t : Bool) → eqb fault 0 ≡ t → lent_fault g (length work) handed ≡ 0
          go true q = sym is ∙ eqb-true fault 0 q
          go false q = sym is ∙ (sym (by ∙ rw q) ∙ fine)

      drawer-fine : drawer_fault g.files d ≡ 0
      drawer-fine =
          let z : fault ≡ 0 = is ∙ room-there in
          rw files-are (sym (by ∙ rw z) ∙ fine)

      pub judge-full : (standing : ℕ → File) → ((i : ℕ) → i < 20 → standing i ≡ file_at d i) → {marks : Marks} {last : List ℕ}
          → marks ≡ marks_after g Full standing (length work) handed → last ≡ work_afterwards g Full standing handed work → Judged 0 marks last
      unfolding drawer_judged judge_left
      judge-full standing same {marks} {last} m w =
          let below : (i : ℕ) → i < g.files → standing i ≡ file_at d i = rw files-are same in
          by_answer 0 marks last
          (lent-judge g d (length work) handed room-there ∙ rw (eq-eqb (drawer_fault g.files d) 0 drawer-fine) (ap (drawer_answer 0) (sym (judged-marks g Full standing (file_at d) handed work room-there below m ∙ all_new g (file_at d) handed))))
          (work-judged g Full (file_at d) work 0 refl (judged-work g Full standing (file_at d) handed work room-there below w))

-- ---- a change
module _ (g : Gate) (files-are : g.files ≡ 20) (d : List ℕ) (k : ℕ) (f : File) (handed : Marks) (work : List ℕ) where
  -- judged from the files where they stand
  pub again-judged : lent_fault g (length work) handed ≡ 0 → (standing : ℕ → File) → ((i : ℕ) → i < 20 → standing i ≡ files_after d k f i) → {marks : Marks} {last : List ℕ}
      → marks ≡ marks_after g (Change k) standing (length work) handed → last ≡ work_afterwards g (Change k) standing handed work → (marks ≡ changed_marks g k (files_after d k f) handed) × (last ≡ work_judged g (Change k) (files_after d k f) work)
  again-judged room standing same m w =
      let below : (i : ℕ) → i < g.files → standing i ≡ files_after d k f i = rw files-are same in
      (judged-marks g (Change k) standing (files_after d k f) handed work room below m ∙ change-new g k (files_after d k f) handed, judged-work g (Change k) standing (files_after d k f) handed work room below w)

  abbrev Changed : ℕ → Marks → List ℕ → Type 0
  Changed refusal marks last =
      (refusal ≡ (drawer_changed_in g d k f (length work) handed).refusal) × ((marks ≡ (drawer_changed_in g d k f (length work) handed).marks) × (last ≡ change_left g d k f refusal work))

  by-change : (refusal : ℕ) (marks : Marks) (last : List ℕ) → drawer_changed_in g d k f (length work) handed ≡ drawer_answer refusal marks → last ≡ change_left g d k f refusal work → Changed refusal marks last
  by-change refusal marks last e w = (sym (ap (λ x. x.refusal) e), (sym (ap (λ x. x.marks) e), w))

  module _ {fault : ℕ} (is : fault ≡ lent_fault g (length work) handed) where
    pub not-lent : (fault ≡ 0 → ⊥) → Changed fault handed work
    unfolding change_left
    not-lent n = by-change fault handed work (lent-refused g d (length work) handed (λ z. n (is ∙ z)) k f ∙ ap (λ x. drawer_answer x handed) (sym is)) (work-untouched g (Change k) (files_after d k f) work fault n)

    module _ (lent : fault ≡ 0) {refusal : ℕ} (by : refusal ≡ drawer_change_fault 20 d k f) where
      whole : drawer_changed_in g d k f (length work) handed ≡ drawer_changed g d k f handed
      whole = lent-change g d (length work) handed (sym is ∙ lent) k f

      by-files : refusal ≡ drawer_change_fault g.files d k f
      by-files = rw files-are by

      pub change-refused : (refusal ≡ 0 → ⊥) → Changed refusal handed work
      unfolding change_left
      change-refused n = by-change refusal handed work (whole ∙ changed-not g d k f handed (λ z. n (by-files ∙ z)) ∙ ap (λ x. drawer_answer x handed) (sym by-files)) (work-untouched g (Change k) (files_after d k f) work refusal n)

      module _ (fine : refusal ≡ 0) where
        pub change-file : k < 20
        change-file = (change-none 20 d k f (sym by ∙ fine)).1

        pub change-judged : {marks : Marks} {last : List ℕ} → marks ≡ changed_marks g k (files_after d k f) handed → last ≡ work_judged g (Change k) (files_after d k f) work → Changed 0 marks last
        unfolding change_left
        change-judged {marks} {last} m w = by-change 0 marks last (whole ∙ changed-well g d k f handed (sym by-files ∙ fine) ∙ ap (drawer_answer 0) (sym m)) (work-judged g (Change k) (files_after d k f) work 0 refl w)

  -- ---- the drawer after it
  module _ {refusal : ℕ} (by : refusal ≡ (drawer_changed_in g d k f (length work) handed).refusal) where
    pub made_so : refusal ≡ 0 → {last : List ℕ} → last ≡ drawer_made 20 d k f → last ≡ drawer_made_in g d k f (length work) handed
    unfolding drawer_made_in
    made_so z e =
        e
        ∙ sym (by-test (λ r. r ≡ drawer_made 20 d k f) (eqb (lent_fault g (length work) handed) 0) (drawer_made g.files d k f) d (λ q. ap (λ n. drawer_made n d k f) files-are)
        (λ q. absurd (eqb-false (lent_fault g (length work) handed) 0 q (sym (by ∙ ap (λ x. x.refusal) (lent-refused g d (length work) handed (eqb-false (lent_fault g (length work) handed) 0 q) k f)) ∙ z))))

    pub made-not : (refusal ≡ 0 → ⊥) → d ≡ drawer_made_in g d k f (length work) handed
    unfolding drawer_made_in drawer_made
    made-not n =
        by-test (λ r. d ≡ r) (eqb (lent_fault g (length work) handed) 0) (drawer_made g.files d k f) d
        (λ q. rw (ne_eqb (drawer_change_fault g.files d k f) 0 (λ z. n (by ∙ ap (λ x. x.refusal) (lent-change g d (length work) handed (eqb-true (lent_fault g (length work) handed) 0 q) k f ∙ changed-well g d k f handed z))))) (λ q. refl)
