-- What the calls over a board need: a call's own fault, what a call with a change answers with one and without, the text, and a
-- fresh board.
-- Assumes nothing.
use Prim.Native.Nat.{ℕ, ◌≤◌, ◌<◌}
use mathlib.Core.Path.{◌≡◌, refl, sym, ap, ◌∙◌}
use mathlib.Core.Bool.{Bool, true, false, cond, not, true≢false}
use mathlib.Core.List.{List, ◌++◌}
use native.Mathlib.Omega.{arith}
use borrow.Author.Tests.{eqb-true, eq-eqb, ne_eqb, lt-ltb, le-ltb}
use lib.ListN.{length, set, drop}
use lib.Dec.{eqb, ltb}
use Rattle.mark_numbers.specs.Marks.{Marks, have_length, fresh_marks, fresh_over}
use Rattle.mark_numbers.proofs.Laws.{lists-long, lists-wrong, lists-right, fresh-over}
use Rattle.bundle_layout.specs.Change.{files_after}
use Rattle.bundle.specs.declared.Made.{Made}
use Rattle.gate_marks.specs.declared.Scope.TheVariants.{Change}
use Rattle.gate_marks.specs.Gate.{marks_of}
use Rattle.gate_marks.specs.Again.{has_lists}
use Rattle.gate_calls.specs.Calls.{Answer}
use Rattle.gate_calls.specs.Lent.{judged_in, tried_in, made_in, output_in, work_left, judge_left, change_left}
use Rattle.gate_lists.specs.declared.Which.{Which}
use Rattle.gate_lists.specs.Which.{gate_called, made_of}
use Rattle.gate_lists.proofs.Answers.{work-untouched}
use Rattle.report.specs.Report.{text_in}
use Rattle.gate_c.specs.Calls.{unless_refused, which_of, gate_numbered, gate_fault, board_fault, judge_called, call_fault, called, file_handed, try_called, make_called, output_called, size_after, text_called, fresh_called}

-- ---- the number of a gate and the lists of a board, by the tests that the code makes
module _ (gate : ℕ) (handed : Marks) where
  pub board-unknown : 2 < gate → 103 ≡ board_fault gate handed
  unfolding board_fault
  board-unknown l = rw (lt-ltb 2 gate l)

  module _ (known : gate ≤ 2) {w : Which} (w-is : w ≡ which_of gate) {n : ℕ} (n-is : n ≡ marks_of (gate_called w)) {t : Bool} (t-is : t ≡ have_length n handed) where
    board-is : has_lists (gate_numbered gate) handed ≡ have_length n handed
    unfolding has_lists
    board-is = ap (λ m. have_length m handed) (sym (n-is ∙ ap (λ w. marks_of (gate_called w)) w-is))

    pub board-wrong : t ≡ false → 100 ≡ board_fault gate handed
    unfolding board_fault
    board-wrong e = rw (le-ltb 2 gate known, board-is, lists-wrong n handed t-is (ap not e))

    pub board-right : t ≡ true → 0 ≡ board_fault gate handed
    unfolding board_fault
    board-right e = rw (le-ltb 2 gate known, board-is, lists-right n handed t-is (ap not e))

-- lists that have no fault are of as many as the gate has marks
pub board-fits : (gate : ℕ) (handed : Marks) {f : ℕ} → f ≡ board_fault gate handed → f ≡ 0 → have_length (marks_of (gate_numbered gate)) handed ≡ true
unfolding board_fault has_lists
board-fits gate handed is none = go (ltb 2 gate) (have_length (marks_of (gate_numbered gate)) handed) (sym is ∙ none)
  where
    go : (t u : Bool) → ◌≡◌ {A = ℕ} (cond t 103 (cond u 0 100)) 0 → u ≡ true
    go true u z = absurd (omega arith)
    go false true z = refl
    go false false z = absurd (omega arith)

-- ---- the fault of a call with a change
module _ (gate : ℕ) (handed : Marks) (size : List ℕ) (present : ℕ) where
  module _ {b : ℕ} (b-is : b ≡ board_fault gate handed) where
    pub fault-board : (b ≡ 0 → ⊥) → b ≡ call_fault gate handed size present
    unfolding call_fault
    fault-board some = rw (← b-is, ne_eqb b 0 some)

    module _ (right : b ≡ 0) where
      none : board_fault gate handed ≡ 0
      none = sym b-is ∙ right

      pub fault-size : (length size ≡ 1 → ⊥) → 100 ≡ call_fault gate handed size present
      unfolding call_fault
      fault-size n = rw (none, ne_eqb (length size) 1 n)

      module _ (one : length size ≡ 1) where
        pub fault-present : 1 < present → 101 ≡ call_fault gate handed size present
        unfolding call_fault
        fault-present l = rw (none, eq-eqb (length size) 1 one, lt-ltb 1 present l)

        pub fault-none : present ≤ 1 → 0 ≡ call_fault gate handed size present
        unfolding call_fault
        fault-none l = rw (none, eq-eqb (length size) 1 one, le-ltb 1 present l)

  -- a call without one has a list of 1 for the length
  pub size_fits : {f : ℕ} → f ≡ call_fault gate handed size present → f ≡ 0 → length size ≡ 1
  unfolding call_fault
  size_fits is z =
      go (eqb (board_fault gate handed) 0) (eqb (length size) 1) (board_fault gate handed) (cond (ltb 1 present) 101 0) refl refl (sym is ∙ z)
    where
      go : (t u : Bool) (b x : ℕ) → eqb b 0 ≡ t → eqb (length size) 1 ≡ u → cond t (cond u x 100) b ≡ 0 → length size ≡ 1
      go true true b x q e z = eqb-true (length size) 1 e
      go true false b x q e z = absurd (omega arith)
      go false u b x q e z = absurd (true≢false (sym (eq-eqb b 0 z) ∙ q))

-- ---- a judgement, whose refusal alone is answered
module _ (gate : ℕ) (s : List ℕ) (handed : Marks) (work : List ℕ) where
  abbrev Judged : ℕ → Marks → List ℕ → Type 0
  Judged r marks last =
      (r ≡ (judge_called gate s (length work) handed).refusal) × ((marks ≡ (judge_called gate s (length work) handed).marks) × (last ≡ judge_left (gate_numbered gate) s r work))

  pub judge-unknown : 2 < gate → Judged 103 handed work
  unfolding judge_called called gate_fault judge_left work_left
  judge-unknown l = rw (lt-ltb 2 gate l) (refl, (refl, refl))

  pub judge-known : gate ≤ 2 → {w : Which} → w ≡ which_of gate → {made : Made} {marks : Marks} {last : List ℕ}
      → (made ≡ made_of (judged_in (gate_called w) s (length work) handed)) × ((marks ≡ (judged_in (gate_called w) s (length work) handed).marks) × (last ≡ judge_left (gate_called w) s made.refusal work))
      → Judged made.refusal marks last
  unfolding judge_called called gate_fault made_of
  judge-known known e (m, (b, w)) = rw (le-ltb 2 gate known, ← e) (ap (λ x. x.refusal) m, (b, w))

-- ---- a list where a call is refused, and where it isn't
module _ (new old : List ℕ) (refusal : ℕ) where
  pub kept : (refusal ≡ 0 → ⊥) → unless_refused refusal new old ≡ old
  unfolding unless_refused
  kept some = rw (ne_eqb refusal 0 some)

  pub replaced : refusal ≡ 0 → unless_refused refusal new old ≡ new
  unfolding unless_refused
  replaced none = rw (eq-eqb refusal 0 none)

-- ---- what a call with a change answers, and the length that it puts down
module _ (fault : ℕ) (handed : Marks) (whole : Answer) (size : List ℕ) {f : ℕ} (is : f ≡ fault) where
  Ends : ℕ → Marks → List ℕ → Type 0
  Ends r marks last =
      (r ≡ (called fault handed whole).refusal) × ((marks ≡ (called fault handed whole).marks) × (last ≡ size_after (called fault handed whole) size))

  -- with a fault of its own
  ends-ill : (f ≡ 0 → ⊥) → Ends f handed size
  unfolding Ends called size_after
  ends-ill some = rw (← is, ne_eqb f 0 some) (refl, (refl, sym (kept (set size 0 0) size f some)))

  -- and without
  ends-well : f ≡ 0 → {made : Made} {r : ℕ} {marks : Marks} {last : List ℕ} → made ≡ made_of whole → marks ≡ whole.marks → r ≡ made.refusal → last ≡ unless_refused made.refusal (set size 0 made.length) size → Ends r marks last
  unfolding Ends called size_after made_of
  ends-well none m b r-is last-is =
      rw (← is, eq-eqb f 0 none) (r-is ∙ ap (λ x. x.refusal) m, (b, last-is ∙ ap (λ x. unless_refused x.refusal (set size 0 x.length) size) m))

module _ (gate : ℕ) (s : List ℕ) (file present : ℕ) (bytes : List ℕ) (handed : Marks) (size work : List ℕ) {f : ℕ} (is : f ≡ call_fault gate handed size present) where
  abbrev Left : ℕ → List ℕ → Type 0
  Left r last = last ≡ change_left (gate_numbered gate) s file (file_handed present bytes) r work

  untouched : (f ≡ 0 → ⊥) → Left f work
  unfolding change_left
  untouched some = work-untouched (gate_numbered gate) (Change file) (files_after s file (file_handed present bytes)) work f some

  -- ---- a try
  module _ where
    abbrev tried : Answer
    tried = try_called gate s file present bytes size (length work) handed

    abbrev Tried : ℕ → Marks → List ℕ → List ℕ → Type 0
    Tried r marks last left = (r ≡ tried.refusal) × ((marks ≡ tried.marks) × ((last ≡ size_after tried size) × Left r left))

    pub try-ill : (f ≡ 0 → ⊥) → Tried f handed size work
    unfolding try_called Ends
    try-ill some =
        let e = ends-ill (call_fault gate handed size present) handed (tried_in (gate_numbered gate) s file (file_handed present bytes) (length work) handed) size is some in
        (e.0, (e.1.0, (e.1.1, untouched some)))

    pub try-well : f ≡ 0 → {w : Which} → w ≡ which_of gate → {made : Made} {r : ℕ} {marks : Marks} {last left : List ℕ}
        → (made ≡ made_of (tried_in (gate_called w) s file (file_handed present bytes) (length work) handed)) × ((marks ≡ (tried_in (gate_called w) s file (file_handed present bytes) (length work) handed).marks) × (left ≡ change_left (gate_called w) s file (file_handed present bytes) made.refusal work))
        → (r ≡ made.refusal) × (last ≡ unless_refused made.refusal (set size 0 made.length) size)
        → Tried r marks last left
    unfolding try_called Ends
    try-well none w-is h (r-is, last-is) =
        let g = rw w-is at h in
        let e = ends-well (call_fault gate handed size present) handed (tried_in (gate_numbered gate) s file (file_handed present bytes) (length work) handed) size is none g.0 g.1.0 r-is last-is in
        (e.0, (e.1.0, (e.1.1, g.1.1 ∙ ap (λ x. change_left (gate_numbered gate) s file (file_handed present bytes) x work) (sym r-is))))

  -- ---- a change made
  module _ (out : List ℕ) where
    abbrev changed : Answer
    changed = make_called gate s file present bytes (length out) size (length work) handed

    abbrev Changed : ℕ → Marks → List ℕ → List ℕ → List ℕ → Type 0
    Changed r marks written last left =
        (r ≡ changed.refusal) × ((marks ≡ changed.marks) × ((written ≡ output_called gate s file present bytes out size (length work) handed) × ((last ≡ size_after changed size) × Left r left)))

    pub make-ill : (f ≡ 0 → ⊥) → Changed f handed out size work
    unfolding make_called output_called Ends
    make-ill some =
        let e = ends-ill (call_fault gate handed size present) handed (made_in (gate_numbered gate) s file (file_handed present bytes) (length out) (length work) handed) size is some in
        (e.0, (e.1.0, (sym (kept _ out _ (λ z. some (is ∙ z))), (e.1.1, untouched some))))

    pub make-well : f ≡ 0 → {w : Which} → w ≡ which_of gate → {made : Made} {r : ℕ} {marks : Marks} {written last left : List ℕ}
        → (made ≡ made_of (made_in (gate_called w) s file (file_handed present bytes) (length out) (length work) handed)) × ((marks ≡ (made_in (gate_called w) s file (file_handed present bytes) (length out) (length work) handed).marks) × ((written ≡ output_in (gate_called w) s file (file_handed present bytes) (length work) handed out) × (left ≡ change_left (gate_called w) s file (file_handed present bytes) made.refusal work)))
        → (r ≡ made.refusal) × (last ≡ unless_refused made.refusal (set size 0 made.length) size)
        → Changed r marks written last left
    unfolding make_called output_called Ends
    make-well none w-is h (r-is, last-is) =
        let g = rw w-is at h in
        let e = ends-well (call_fault gate handed size present) handed (made_in (gate_numbered gate) s file (file_handed present bytes) (length out) (length work) handed) size is none g.0 g.1.0 r-is last-is in
        (e.0, (e.1.0, (g.1.1.0 ∙ sym (replaced _ out _ (sym is ∙ none)), (e.1.1, g.1.1.1 ∙ ap (λ x. change_left (gate_numbered gate) s file (file_handed present bytes) x work) (sym r-is)))))

-- ---- the text
module _ (gate refusal : ℕ) (handed : Marks) (out : List ℕ) {b : ℕ} (b-is : b ≡ board_fault gate handed) where
  abbrev Text : ℕ → List ℕ → Type 0
  Text r last =
      (r ≡ length (text_called gate refusal handed (length out))) × (last ≡ text_called gate refusal handed (length out) ++ drop (length (text_called gate refusal handed (length out))) out)

  pub text-ill : (b ≡ 0 → ⊥) → Text 0 out
  unfolding text_called
  text-ill some = rw (← b-is, ne_eqb b 0 some) (refl, refl)

  pub text-well : b ≡ 0 → {r : ℕ} {last : List ℕ} → r ≡ length (text_in refusal handed (length out)) → last ≡ text_in refusal handed (length out) ++ drop (length (text_in refusal handed (length out))) out → Text r last
  unfolding text_called
  text-well none r-is last-is = rw (← b-is, eq-eqb b 0 none) (r-is, last-is)

-- ---- a fresh board
module _ (gate : ℕ) (handed : Marks) {b : ℕ} (b-is : b ≡ board_fault gate handed) where
  abbrev Fresh : ℕ → Marks → Type 0
  Fresh r last = (r ≡ board_fault gate handed) × (last ≡ fresh_called gate handed)

  pub fresh-ill : (b ≡ 0 → ⊥) → Fresh b handed
  unfolding fresh_called
  fresh-ill some = (b-is, rw (← b-is, ne_eqb b 0 some))

  pub fresh-well : b ≡ 0 → {last : Marks} → last ≡ fresh_over handed → Fresh 0 last
  unfolding fresh_called
  fresh-well none last-is =
      let n = marks_of (gate_numbered gate) in
      let e = board-fits gate handed b-is none in
      let long = (lists-long n handed e).kinds-long in
      (sym none ∙ b-is, rw (← b-is, eq-eqb b 0 none) (last-is ∙ fresh-over handed (rw long e) ∙ ap fresh_marks long))
