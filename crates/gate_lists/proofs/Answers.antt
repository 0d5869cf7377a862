-- What the calls over lists answer, from what their steps answer.
-- Assumes nothing.
use Prim.Native.Nat.{ℕ, ◌/◌, ◌≤◌, ◌<◌}
use mathlib.Core.Path.{◌≡◌, refl, sym, ap, ◌∙◌}
use mathlib.Core.Bool.{Bool, true, false, cond, and-false}
use mathlib.Core.List.{List}
use native.Mathlib.Omega.{arith}
use borrow.Author.Tests.{lt-leb, le-leb, eq-eqb, ne_eqb, eqb-true}
use lib.ListN.{length}
use lib.Dec.{leb, ltb, eqb}
use Rattle.parts.specs.Files.{File, new_file}
use Rattle.mark_numbers.specs.Marks.{Marks, mark_in, have_length, fresh_marks, fresh_over}
use Rattle.mark_numbers.proofs.Laws.{Long, lists-long, long-lists, fresh-over, marks-same}
use Rattle.bundle_layout.specs.Bundle.{bundle_fault, file_at, bundle_length}
use Rattle.bundle_layout.specs.Change.{files_after, try_fault, make_fault, output}
use Rattle.bundle_layout.proofs.Laws.{try-none, make-none}
use Rattle.bundle.specs.Answers.{change_of, tried_bundle, made_bundle}
use Rattle.bundle.specs.declared.Made.{Made}
use Rattle.gate_marks.specs.declared.Scope.{Scope}
use Rattle.gate_marks.specs.declared.Scope.TheVariants.{Full, Change}
use Rattle.gate_marks.specs.Gate.{Gate, marks_of}
use Rattle.gate_marks.specs.Marks.{full_marks}
use Rattle.gate_marks.specs.Again.{touched, new_mark, new_marks, work_judged, workspace_of, room_is_there, has_lists, can_judge, marks_after, work_afterwards}
use Rattle.gate_marks.proofs.Laws.{mark-below, work-same}
use Rattle.gate_calls.specs.Calls.{answer, changed_marks, judgement, accepted, answered, tried, change_made}
use Rattle.gate_calls.specs.Lent.{lent_fault, over, judged_in, tried_in, made_in, output_in, work_left, judge_left, change_left}
use Rattle.gate_calls.proofs.Lent.{lent-lists, lent-room, lent-judge, lent-try, lent-make, lent-output, lent-wrong, lent-refused, lent-untouched}
use Rattle.standing.specs.Standing.{standing, standing_with}
use Rattle.standing.proofs.Laws.{placed-fits}
use Rattle.schedule.specs.Schedule.{schedule}
use Rattle.schedule.proofs.Laws.{files-are}
use Rattle.baseline.specs.Baseline.{baseline}
use Rattle.baseline.proofs.Laws.{files-are as baseline-files}
use Rattle.contract.specs.Contract.{contract}
use Rattle.contract.proofs.Laws.{files-are as contract-files}
use Rattle.gate_lists.specs.declared.Which.{Which}
use Rattle.gate_lists.specs.declared.Which.TheVariants.{Schedule, Baseline, Contract}
use Rattle.gate_lists.specs.Which.{gate_called, made_of}
use Rattle.gate_lists.specs.Stands.{stands_in}
use Rattle.gate_lists.proofs.Stands.{stands-length, stands-bundle, stands_after}

-- ---- the test of what is lent
module _ (g : Gate) (lent : ℕ) (handed : Marks) where
  pub wrong-lists : have_length (marks_of g) handed ≡ false → 100 ≡ lent_fault g lent handed
  unfolding lent_fault has_lists
  wrong-lists e = rw e

  module _ (right : have_length (marks_of g) handed ≡ true) where
    pub short-work : lent < workspace_of g → 14 ≡ lent_fault g lent handed
    unfolding lent_fault has_lists room_is_there
    short-work l = rw (right, lt-leb (workspace_of g) lent l, and-false (leb g.files 32))

    pub long-work : g.files ≤ 32 → workspace_of g ≤ lent → 0 ≡ lent_fault g lent handed
    unfolding lent_fault has_lists room_is_there
    long-work f l = rw (right, le-leb g.files 32 f, le-leb (workspace_of g) lent l)

-- ---- with room the marks in scope are judged, of files that agree with these
module _ (g : Gate) (scope : Scope) (standing files : ℕ → File) (handed : Marks) (work : List ℕ) (room : lent_fault g (length work) handed ≡ 0)
    (same : (i : ℕ) → i < g.files → standing i ≡ files i) where
  can : can_judge g (length work) handed ≡ true
  unfolding can_judge
  can = rw (lent-room g (length work) handed room, lent-lists g (length work) handed room)

  pub judged-marks : {marks : Marks} → marks ≡ marks_after g scope standing (length work) handed → marks ≡ new_marks g scope files handed
  unfolding marks_after new_marks new_mark
  judged-marks e =
      e ∙ rw can (marks-same (marks_of g) (new_mark g scope standing handed) (new_mark g scope files handed) (λ m l. ap (λ x. cond (touched g.files g.rule scope m) x (mark_in handed m)) (mark-below g m standing files same)))

  pub judged-work : {last : List ℕ} → last ≡ work_afterwards g scope standing handed work → last ≡ work_judged g scope files work
  unfolding work_afterwards work_judged
  judged-work e = e ∙ rw can (work-same _ g.expected _ standing files work g.files same)

-- ---- a full judgement
module _ (g : Gate) (s : List ℕ) (lent : ℕ) (handed : Marks) where
  pub lists-wrong : (fault : ℕ) → fault ≡ lent_fault g lent handed → fault ≡ 100 → judged_in g s lent handed ≡ answer 100 0 handed
  unfolding judged_in
  lists-wrong fault is e = lent-wrong g lent handed (fresh_marks (marks_of g)) (judgement g s) (sym is ∙ e)

  -- refused as 14 or by the bundle: every mark not judged
  pub judge-refused : (fault refusal : ℕ) → fault ≡ lent_fault g lent handed → (fault ≡ 100 → ⊥) → refusal ≡ cond (eqb fault 0) (bundle_fault g.files s) fault → (refusal ≡ 0 → ⊥) → judged_in g s lent handed ≡ answer refusal 0 (fresh_marks (marks_of g))
  unfolding judged_in judgement over lent_fault
  judge-refused fault refusal is right e some = go (has_lists g handed) (room_is_there g lent) is
    where
      go : (l r : Bool) → fault ≡ cond l (cond r 0 14) 100
          → cond l (cond r (cond (eqb (bundle_fault g.files s) 0) (answer 0 (length s) (full_marks g (file_at s))) (answer (bundle_fault g.files s) 0 (fresh_marks (marks_of g)))) (answer 14 0 (fresh_marks (marks_of g)))) (answer 100 0 handed)
          ≡ answer refusal 0 (fresh_marks (marks_of g))
      go true true q =
          let b : bundle_fault g.files s ≡ refusal = sym (e ∙ rw q) in
          rw (b, ne_eqb refusal 0 some)
      go true false q =
          let b : refusal ≡ 14 = e ∙ rw q in
          rw b
      go false r q = absurd (right q)

  -- not refused: the marks of the files
  module _ (fault refusal : ℕ) (is : fault ≡ lent_fault g lent handed) (by : refusal ≡ cond (eqb fault 0) (bundle_fault g.files s) fault) (fine : refusal ≡ 0) where
    pub room-there : lent_fault g lent handed ≡ 0
    room-there = go (eqb fault 0) refl
      where
        go : (t : Bool) → eqb fault 0 ≡ t → lent_fault g lent handed ≡ 0
        go true q = sym is ∙ eqb-true fault 0 q
        go false q = sym is ∙ (sym (by ∙ rw q) ∙ fine)

    bundle-fine : bundle_fault g.files s ≡ 0
    bundle-fine =
        let z : fault ≡ 0 = is ∙ room-there in
        sym (by ∙ rw z) ∙ fine

    pub judged-whole : judged_in g s lent handed ≡ answer 0 (length s) (full_marks g (file_at s))
    unfolding judgement
    judged-whole = lent-judge g lent handed room-there s ∙ rw (eq-eqb (bundle_fault g.files s) 0 bundle-fine)

-- in a full judgement every mark is judged, and after a change those that read the file
pub all_new : (g : Gate) (files : ℕ → File) (handed : Marks) → new_marks g Full files handed ≡ full_marks g files
unfolding new_marks new_mark touched full_marks
all_new g files handed = refl

pub change-new : (g : Gate) (k : ℕ) (files : ℕ → File) (handed : Marks) → new_marks g (Change k) files handed ≡ changed_marks g k files handed
unfolding new_marks new_mark touched changed_marks
change-new g k files handed = refl

-- ---- a change, from what became of the bundle
module _ (g : Gate) (s : List ℕ) (k : ℕ) (f : File) (handed : Marks) where
  answer-made : (refusal : ℕ) → made_of (answered g refusal s k f handed) ≡ change_of refusal (bundle_length g.files (files_after s k f))
  unfolding made_of answered accepted change_of
  answer-made refusal = go (eqb refusal 0) refl
    where
      go : (t : Bool) → eqb refusal 0 ≡ t → made_of (cond t (accepted g s k f handed) (answer refusal 0 handed)) ≡ record { refusal = refusal; length = cond t (bundle_length g.files (files_after s k f)) 0 }
      go true q = ap (λ n. record { refusal = n; length = bundle_length g.files (files_after s k f) }) (sym (eqb-true refusal 0 q))
      go false q = refl

  answer-marks : (refusal : ℕ) → (answered g refusal s k f handed).marks ≡ cond (eqb refusal 0) (changed_marks g k (files_after s k f) handed) handed
  unfolding answered accepted
  answer-marks refusal = go (eqb refusal 0)
    where
      go : (t : Bool) → (cond t (accepted g s k f handed) (answer refusal 0 handed)).marks ≡ cond t (changed_marks g k (files_after s k f) handed) handed
      go true = refl
      go false = refl

  module _ (lent : ℕ) (room : lent_fault g lent handed ≡ 0) where
    pub try-made : (made : Made) → made ≡ tried_bundle g.files s k f → (marks : Marks) → marks ≡ cond (eqb made.refusal 0) (changed_marks g k (files_after s k f) handed) handed → (made ≡ made_of (tried_in g s k f lent handed)) × (marks ≡ (tried_in g s k f lent handed).marks)
    unfolding tried tried_bundle change_of
    try-made made e marks m =
        (e ∙ sym (ap made_of (lent-try g lent handed room s k f) ∙ answer-made (try_fault g.files s k f)), m ∙ rw e (sym (ap (λ x. x.marks) (lent-try g lent handed room s k f) ∙ answer-marks (try_fault g.files s k f))))

    pub make-made : (out : ℕ) (made : Made) → made ≡ made_bundle g.files s k f out → (marks : Marks) → marks ≡ cond (eqb made.refusal 0) (changed_marks g k (files_after s k f) handed) handed → (made ≡ made_of (made_in g s k f out lent handed)) × (marks ≡ (made_in g s k f out lent handed).marks)
    unfolding change_made made_bundle change_of
    make-made out made e marks m =
        (e ∙ sym (ap made_of (lent-make g lent handed room s k f out) ∙ answer-made (make_fault g.files s k f out)), m ∙ rw e (sym (ap (λ x. x.marks) (lent-make g lent handed room s k f out) ∙ answer-marks (make_fault g.files s k f out))))

  -- a file of an accepted change is one of the set
  pub tried-file : (made : Made) → made ≡ tried_bundle g.files s k f → made.refusal ≡ 0 → k < g.files
  unfolding tried_bundle change_of
  tried-file made e z = (try-none g.files s k f (sym (ap (λ x. x.refusal) e) ∙ z)).1

  pub made-file : (out : ℕ) (made : Made) → made ≡ made_bundle g.files s k f out → made.refusal ≡ 0 → k < g.files
  unfolding made_bundle change_of
  made-file out made e z = (try-none g.files s k f (make-none g.files s k f out (sym (ap (λ x. x.refusal) e) ∙ z)).0).1

  -- refused for what is lent: everything comes back
  module _ (lent : ℕ) (fault : ℕ) (is : fault ≡ lent_fault g lent handed) (none : fault ≡ 0 → ⊥) where
    short : lent_fault g lent handed ≡ 0 → ⊥
    short z = none (is ∙ z)

    pub try-short : (record { refusal = fault; length = 0 } ≡ made_of (tried_in g s k f lent handed)) × (handed ≡ (tried_in g s k f lent handed).marks)
    unfolding tried_in made_of
    try-short = (ap (λ n. record { refusal = n; length = 0 }) is ∙ sym (ap made_of whole), sym (ap (λ x. x.marks) whole))
      where
        whole : over g lent handed handed (tried g s k f handed) ≡ answer (lent_fault g lent handed) 0 handed
        whole = lent-refused g lent handed (tried g s k f handed) short

    pub make-short : (out : ℕ) → (record { refusal = fault; length = 0 } ≡ made_of (made_in g s k f out lent handed)) × (handed ≡ (made_in g s k f out lent handed).marks)
    unfolding made_in made_of
    make-short out = (ap (λ n. record { refusal = n; length = 0 }) is ∙ sym (ap made_of whole), sym (ap (λ x. x.marks) whole))
      where
        whole : over g lent handed handed (change_made g s k f handed out) ≡ answer (lent_fault g lent handed) 0 handed
        whole = lent-refused g lent handed (change_made g s k f handed out) short

-- ---- what is left in the workspace
module _ (g : Gate) (scope : Scope) (files : ℕ → File) (work : List ℕ) where
  pub work-untouched : (refusal : ℕ) → (refusal ≡ 0 → ⊥) → work ≡ work_left g scope files refusal work
  unfolding work_left
  work-untouched refusal n = rw (ne_eqb refusal 0 n)

  pub work-judged : (refusal : ℕ) → refusal ≡ 0 → {last : List ℕ} → last ≡ work_judged g scope files work → last ≡ work_left g scope files refusal work
  unfolding work_left
  work-judged refusal z e = e ∙ rw (eq-eqb refusal 0 z)

-- ---- the gates in numbers
pub files-few : (which : Which) → (gate_called which).files ≤ 32
unfolding gate_called
files-few Schedule = omega (arith, files-are)
files-few Baseline = omega (arith, baseline-files)
files-few Contract = omega (arith, contract-files)

-- what is called by a name is that gate
module _ {which : Which} where
  pub is-schedule : which ≡ Schedule → schedule ≡ gate_called which
  unfolding gate_called
  is-schedule e = sym (ap gate_called e)

  pub is-baseline : which ≡ Baseline → baseline ≡ gate_called which
  unfolding gate_called
  is-baseline e = sym (ap gate_called e)

  pub is-contract : which ≡ Contract → contract ≡ gate_called which
  unfolding gate_called
  is-contract e = sym (ap gate_called e)

-- ---- the answers of the calls, as the code comes to them
-- lists that were not refused are as long as there are marks
lists-not-refused : (g : Gate) (lent : ℕ) (handed : Marks) {fault : ℕ} → fault ≡ lent_fault g lent handed → (fault ≡ 100 → ⊥) → Long (marks_of g) handed
lists-not-refused g lent handed is right = lists-long (marks_of g) handed (go (have_length (marks_of g) handed) refl)
  where
    go : (t : Bool) → have_length (marks_of g) handed ≡ t → have_length (marks_of g) handed ≡ true
    go true e = e
    go false e = absurd (right (is ∙ sym (wrong-lists g lent handed e)))

-- and so of one length
pub lists-even : (g : Gate) (lent : ℕ) (handed : Marks) {fault : ℕ} → fault ≡ lent_fault g lent handed → (fault ≡ 100 → ⊥) → have_length (length handed.kinds) handed ≡ true
lists-even g lent handed is right =
    let l = lists-not-refused g lent handed is right in
    rw l.kinds-long (long-lists (marks_of g) handed l)

module _ (g : Gate) (s : List ℕ) (handed : Marks) (work : List ℕ) {fault : ℕ} (is : fault ≡ lent_fault g (length work) handed) where
  abbrev Judged : Made → Marks → List ℕ → Type 0
  Judged made marks last =
      (made ≡ made_of (judged_in g s (length work) handed)) × ((marks ≡ (judged_in g s (length work) handed).marks) × (last ≡ judge_left g s made.refusal work))

  by_answer : (refusal n : ℕ) (marks : Marks) (last : List ℕ) → judged_in g s (length work) handed ≡ answer refusal n marks → last ≡ judge_left g s refusal work → Judged (record { refusal = refusal; length = n }) marks last
  unfolding made_of
  by_answer refusal n marks last e w = (sym (ap made_of e), (sym (ap (λ x. x.marks) e), w))

  pub judge-wrong : fault ≡ 100 → Judged (record { refusal = 100; length = 0 }) handed work
  unfolding judge_left work_left
  judge-wrong e = by_answer 100 0 handed work (lists-wrong g s (length work) handed fault is e) refl

  module _ {n refusal : ℕ} (n-is : n ≡ g.files) (by : refusal ≡ cond (eqb fault 0) (bundle_fault n s) fault) where
    refusal-by : refusal ≡ cond (eqb fault 0) (bundle_fault g.files s) fault
    refusal-by = rw n-is at by

    pub judge-fresh : (fault ≡ 100 → ⊥) → (refusal ≡ 0 → ⊥) → {marks : Marks} → marks ≡ fresh_over handed → Judged (record { refusal = refusal; length = 0 }) marks work
    unfolding judge_left
    judge-fresh right some {marks} e =
        by_answer refusal 0 marks work
        (judge-refused g s (length work) handed fault refusal is right refusal-by some ∙ ap (answer refusal 0) (sym (e ∙ fresh-over handed (lists-even g (length work) handed is right) ∙ ap fresh_marks (lists-not-refused g (length work) handed is right).kinds-long)))
        (work-untouched g Full (file_at s) work refusal some)

    pub judge-full : refusal ≡ 0 → (standing : ℕ → File) → ((i : ℕ) → i < g.files → standing i ≡ file_at s i) → {marks : Marks} {last : List ℕ}
        → marks ≡ marks_after g Full standing (length work) handed → last ≡ work_afterwards g Full standing handed work → Judged (record { refusal = 0; length = length s }) marks last
    unfolding judge_left
    judge-full z standing same {marks} {last} m w =
        let room = room-there g s (length work) handed fault refusal is refusal-by z in
        by_answer 0 (length s) marks last
        (judged-whole g s (length work) handed fault refusal is refusal-by z ∙ ap (answer 0 (length s)) (sym (judged-marks g Full standing (file_at s) handed work room same m ∙ all_new g (file_at s) handed)))
        (work-judged g Full (file_at s) work 0 refl (judged-work g Full standing (file_at s) handed work room same w))

-- the files of a bundle as they were put down
pub bundle-stands : (s b c stand₀ stand : List ℕ) {n : ℕ} (m : ℕ) → n ≡ m → n ≤ length stand₀ / 3 → stand ≡ stands_in s n stand₀ → (i : ℕ) → i < m → standing s b c stand i ≡ file_at s i
bundle-stands s b c stand₀ stand m n-is room e i l = rw e (stands-bundle s stand₀ b c _ room i (rw n-is l))

pub change-stands : (s new c stand₀ stand last : List ℕ) {n which : ℕ} (m k : ℕ) (present : Bool) → n ≡ m → n ≤ length stand₀ / 3 → k < m → stand ≡ stands_in s n stand₀ → which ≡ cond present 2 0
    → last ≡ cond (ltb k (length stand / 3)) (standing_with stand k which 0 (length new)) stand → (i : ℕ) → i < m → standing s new c last i ≡ files_after s k (new_file present new) i
change-stands s new c stand₀ stand last {n} {which} m k present n-is room small e w is i l =
    let long : k < length stand / 3 = rw (ap length e ∙ stands-length s stand₀ n) (omega arith) in
    let put : last ≡ standing_with (stands_in s n stand₀) k (cond present 2 0) 0 (length new) = is ∙ placed-fits stand k which 0 (length new) long ∙ rw (e, w) in
    rw put (stands_after s new c stand₀ n k room (rw n-is small) present i (rw n-is l))

-- a change whose fate is known
module _ (g : Gate) (s : List ℕ) (k : ℕ) (f : File) (made : Made) (handed : Marks) (work : List ℕ) where
  abbrev Changed : Marks → List ℕ → Type 0
  Changed marks last =
      (made ≡ made) × ((marks ≡ cond (eqb made.refusal 0) (changed_marks g k (files_after s k f) handed) handed) × (last ≡ change_left g s k f made.refusal work))

  pub change-refused : (made.refusal ≡ 0 → ⊥) → Changed handed work
  unfolding change_left
  change-refused n = (refl, (rw (ne_eqb made.refusal 0 n), work-untouched g (Change k) (files_after s k f) work made.refusal n))

  pub change-judged : made.refusal ≡ 0 → lent_fault g (length work) handed ≡ 0 → (standing : ℕ → File) → ((i : ℕ) → i < g.files → standing i ≡ files_after s k f i) → {marks : Marks} {last : List ℕ}
      → marks ≡ marks_after g (Change k) standing (length work) handed → last ≡ work_afterwards g (Change k) standing handed work → Changed marks last
  unfolding change_left
  change-judged z room standing same m w =
      (refl, (judged-marks g (Change k) standing (files_after s k f) handed work room same m ∙ change-new g k (files_after s k f) handed ∙ rw (eq-eqb made.refusal 0 z), work-judged g (Change k) (files_after s k f) work made.refusal z (judged-work g (Change k) standing (files_after s k f) handed work room same w)))

-- the calls with a change
module _ (g : Gate) (s : List ℕ) (k : ℕ) (f : File) (handed : Marks) (work : List ℕ) {fault : ℕ} (is : fault ≡ lent_fault g (length work) handed) where
  lent-room-there : fault ≡ 0 → lent_fault g (length work) handed ≡ 0
  lent-room-there z = sym is ∙ z

  pub try-not : (fault ≡ 0 → ⊥) → (record { refusal = fault; length = 0 } ≡ made_of (tried_in g s k f (length work) handed)) × ((handed ≡ (tried_in g s k f (length work) handed).marks) × (work ≡ change_left g s k f fault work))
  unfolding change_left
  try-not n =
      let both = try-short g s k f handed (length work) fault is n in
      (both.0, (both.1, work-untouched g (Change k) (files_after s k f) work fault n))

  pub make-not : (out : List ℕ) → (fault ≡ 0 → ⊥) → (record { refusal = fault; length = 0 } ≡ made_of (made_in g s k f (length out) (length work) handed)) × ((handed ≡ (made_in g s k f (length out) (length work) handed).marks) × ((out ≡ output_in g s k f (length work) handed out) × (work ≡ change_left g s k f fault work)))
  unfolding change_left
  make-not out n =
      let both = make-short g s k f handed (length work) fault is n (length out) in
      (both.0, (both.1, (sym (lent-untouched g (length work) handed s k f out (λ z. n (is ∙ z))), work-untouched g (Change k) (files_after s k f) work fault n)))

  module _ (z : fault ≡ 0) {n : ℕ} (n-is : n ≡ g.files) (made : Made) {r : Made} {marks : Marks} {last : List ℕ}
      (r-is : r ≡ made) (m : marks ≡ cond (eqb made.refusal 0) (changed_marks g k (files_after s k f) handed) handed) (w : last ≡ change_left g s k f made.refusal work) where
    left_is : last ≡ change_left g s k f r.refusal work
    left_is = w ∙ ap (λ x. change_left g s k f x.refusal work) (sym r-is)

    pub try-all : made ≡ tried_bundle n s k f → (r ≡ made_of (tried_in g s k f (length work) handed)) × ((marks ≡ (tried_in g s k f (length work) handed).marks) × (last ≡ change_left g s k f r.refusal work))
    try-all e =
        let both = try-made g s k f handed (length work) (lent-room-there z) made (rw n-is at e) marks m in
        (r-is ∙ both.0, (both.1, left_is))

    pub make-all : (out : List ℕ) {written : List ℕ} → made ≡ made_bundle n s k f (length out) → written ≡ output n s k f out → (r ≡ made_of (made_in g s k f (length out) (length work) handed)) × ((marks ≡ (made_in g s k f (length out) (length work) handed).marks) × ((written ≡ output_in g s k f (length work) handed out) × (last ≡ change_left g s k f r.refusal work)))
    make-all out e o =
        let both = make-made g s k f handed (length work) (lent-room-there z) (length out) made (rw n-is at e) marks m in
        (r-is ∙ both.0, (both.1, (o ∙ rw n-is (sym (lent-output g (length work) handed (lent-room-there z) s k f out)), left_is)))
