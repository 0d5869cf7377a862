-- The third demand, for any gate: after an accepted change the marks handed back are those of the files as they now stand, and
-- stay so after any number of changes. Quotations are of document 01, "The bundle".
-- Assumes nothing.
use Prim.Native.Nat.{ℕ, ◌≤◌, ◌<◌}
use mathlib.Core.Path.{◌≡◌, refl, sym, ap, ◌∙◌}
use mathlib.Core.Bool.{Bool, true, false, cond}
use mathlib.Core.List.{List, [], ◌∷◌}
use borrow.Author.Tests.{eq-eqb, ne_eqb, eqb-true}
use lib.ListN.{length, take}
use lib.Dec.{eqb}
use Rattle.json_bytes.proofs.Laws.{by-test}
use Rattle.parts.specs.Files.{File, Left}
use Rattle.mark_numbers.specs.Marks.{Marks, mark_in, not_judged, fresh_marks}
use Rattle.mark_numbers.proofs.Laws.{marks-same, mark-of-marks}
use Rattle.bundle_bytes.proofs.Laws.{Bytes}
use Rattle.bundle_layout.specs.Bundle.{is_omitted, bundle_fault, file_at, bundle_of, bundle_length}
use Rattle.bundle_layout.specs.Change.{files_after, try_fault, make_fault, output}
use Rattle.bundle_layout.proofs.Laws.{omitted-file, bundle-length, try-none, make-none, try-make}
use Rattle.bundle_layout.proofs.RoundTrip.{after-change as bundle-after, unchanged-file, unchanged-accepted, unchanged-bundle, output-read}
use Rattle.gate_marks.specs.Gate.{Gate, marks_of, reads_file}
use Rattle.gate_marks.specs.Marks.{mark_at, full_marks}
use Rattle.gate_marks.proofs.Laws.{mark-keeps, mark-below}
use Rattle.gate_calls.specs.Calls.{answer, changed_marks, judgement, accepted, answered, tried, change_made}
use Rattle.gate_calls.specs.Sequence.{Step, State, next, stepped, after}

-- a set is judged from its files alone
pub full-same : (g : Gate) (files others : ℕ → File) → ((i : ℕ) → i < g.files → files i ≡ others i) → full_marks g files ≡ full_marks g others
unfolding full_marks
full-same g files others same = marks-same (marks_of g) (λ m. mark_at g m files) (λ m. mark_at g m others) (λ m l. mark-below g m files others same)

-- marks that are those of their bundle
pub record Right (g : Gate) (x : State) : Type 0 where
  pub fine : bundle_fault g.files x.bundle ≡ 0
  pub right : x.marks ≡ full_marks g (file_at x.bundle)

module _ (g : Gate) where
  -- ---- one mark
  -- "All other marks come back as handed in", and may: a mark that doesn't read the changed file is the same before and after
  pub untouched : (s : List ℕ) (k : ℕ) (f : File) (m : ℕ) → m < marks_of g → reads_file g m k ≡ false → mark_at g m (files_after s k f) ≡ mark_at g m (file_at s)
  unfolding files_after
  untouched s k f m l e = mark-keeps g m (file_at s) k f e

  -- "the changed file's mark and those of the rules that read it are judged from the files as they now stand, never from the
  -- handed board's marks. All other marks come back as handed in.": of any handed marks, right or wrong
  module _ (k : ℕ) (files : ℕ → File) (marks : Marks) (m : ℕ) (l : m < marks_of g) where
    pub any-board : mark_in (changed_marks g k files marks) m ≡ cond (reads_file g m k) (mark_at g m files) (mark_in marks m)
    unfolding changed_marks
    any-board = mark-of-marks (marks_of g) (λ m. cond (reads_file g m k) (mark_at g m files) (mark_in marks m)) m l

    pub judged-again : reads_file g m k ≡ true → mark_in (changed_marks g k files marks) m ≡ mark_at g m files
    judged-again e = any-board ∙ rw e

    pub handed-back : reads_file g m k ≡ false → mark_in (changed_marks g k files marks) m ≡ mark_in marks m
    handed-back e = any-board ∙ rw e

  -- a mark of a full judgement
  pub full-mark : (files : ℕ → File) (m : ℕ) → m < marks_of g → mark_in (full_marks g files) m ≡ mark_at g m files
  unfolding full_marks
  full-mark files m l = mark-of-marks (marks_of g) (λ m. mark_at g m files) m l

  -- ---- a judgement, and a change that is accepted or refused
  pub judged : (s : List ℕ) → bundle_fault g.files s ≡ 0 → judgement g s ≡ answer 0 (length s) (full_marks g (file_at s))
  unfolding judgement
  judged s e = rw (eq-eqb (bundle_fault g.files s) 0 e)

  -- "A refused full judgement gives 81 marks 'not judged'"
  pub not-judged : (s : List ℕ) → (bundle_fault g.files s ≡ 0 → ⊥) → judgement g s ≡ answer (bundle_fault g.files s) 0 (fresh_marks (marks_of g))
  unfolding judgement
  not-judged s e = rw (ne_eqb (bundle_fault g.files s) 0 e)

  pub not-judged-mark : (s : List ℕ) → (bundle_fault g.files s ≡ 0 → ⊥) → (m : ℕ) → m < marks_of g → mark_in (judgement g s).marks m ≡ not_judged
  unfolding fresh_marks
  not-judged-mark s e m l = ap (λ v. mark_in v.marks m) (not-judged s e) ∙ mark-of-marks (marks_of g) (λ m. not_judged) m l

  module _ (s : List ℕ) (k : ℕ) (f : File) (marks : Marks) where
    pub tried-well : try_fault g.files s k f ≡ 0 → tried g s k f marks ≡ accepted g s k f marks
    unfolding tried answered
    tried-well e = rw (eq-eqb (try_fault g.files s k f) 0 e)

    pub made-well : (room : ℕ) → make_fault g.files s k f room ≡ 0 → change_made g s k f marks room ≡ accepted g s k f marks
    unfolding change_made answered
    made-well room e = rw (eq-eqb (make_fault g.files s k f room) 0 e)

    -- "a refused change gives the board as handed in."
    pub try-refused : (try_fault g.files s k f ≡ 0 → ⊥) → tried g s k f marks ≡ answer (try_fault g.files s k f) 0 marks
    unfolding tried answered
    try-refused e = rw (ne_eqb (try_fault g.files s k f) 0 e)

    pub refused : (room : ℕ) → (make_fault g.files s k f room ≡ 0 → ⊥) → change_made g s k f marks room ≡ answer (make_fault g.files s k f room) 0 marks
    unfolding change_made answered
    refused room e = rw (ne_eqb (make_fault g.files s k f room) 0 e)

    -- "A try answers with the board, or the refusal, that making the change into an output long enough would give"
    pub try-is-make : (room : ℕ) → bundle_length g.files (files_after s k f) ≤ room → change_made g s k f marks room ≡ tried g s k f marks
    unfolding change_made tried
    try-is-make room l = rw (try-make g.files s k f room l)

  -- ---- one change of the right marks gives the right marks
  module _ (s : List ℕ) (k : ℕ) (f : File) where
    pub after-change : changed_marks g k (files_after s k f) (full_marks g (file_at s)) ≡ full_marks g (files_after s k f)
    unfolding changed_marks full_marks
    after-change =
        marks-same (marks_of g) (λ m. cond (reads_file g m k) (mark_at g m (files_after s k f)) (mark_in (full_marks g (file_at s)) m)) (λ m. mark_at g m (files_after s k f)) right
      where
        right : (m : ℕ) → m < marks_of g → cond (reads_file g m k) (mark_at g m (files_after s k f)) (mark_in (full_marks g (file_at s)) m) ≡ mark_at g m (files_after s k f)
        right m l =
            by-test (λ x. x ≡ mark_at g m (files_after s k f)) (reads_file g m k) _ _ (λ e. refl) (λ e. full-mark (file_at s) m l ∙ sym (untouched s k f m l e))

    -- "for a try the files as they now stand are those that would be written"
    module _ (fine : try_fault g.files s k f ≡ 0) where
      pub as_written : full_marks g (files_after s k f) ≡ full_marks g (file_at (bundle_of g.files (files_after s k f)))
      as_written = full-same g (files_after s k f) (file_at (bundle_of g.files (files_after s k f))) (λ i l. sym ((bundle-after g.files s k f fine).1 i l))

      pub right-after : changed_marks g k (files_after s k f) (full_marks g (file_at s)) ≡ full_marks g (file_at (bundle_of g.files (files_after s k f)))
      right-after = after-change ∙ as_written

      -- so the answer is that of a full judgement of the new bundle
      pub accepted-is-judgement : accepted g s k f (judgement g s).marks ≡ judgement g (bundle_of g.files (files_after s k f))
      unfolding accepted
      accepted-is-judgement =
          rw (judged s (try-none g.files s k f fine).0, judged (bundle_of g.files (files_after s k f)) (bundle-after g.files s k f fine).0, bundle-length g.files (files_after s k f), right-after)

      pub try-is-judgement : tried g s k f (judgement g s).marks ≡ judgement g (bundle_of g.files (files_after s k f))
      try-is-judgement = tried-well s k f (judgement g s).marks fine ∙ accepted-is-judgement

    pub make-is-judgement : (room : ℕ) → make_fault g.files s k f room ≡ 0 → change_made g s k f (judgement g s).marks room ≡ judgement g (bundle_of g.files (files_after s k f))
    make-is-judgement room e = made-well s k f (judgement g s).marks room e ∙ accepted-is-judgement (make-none g.files s k f room e).0

  -- ---- any number of changes, accepted and refused

  pub step_right : (x : State) (c : Step) → Right g x → Right g (stepped g x c)
  unfolding stepped next
  step_right x c r =
      by-test (Right g) (eqb (make_fault g.files x.bundle c.file c.new c.room) 0) (next g x c) x
      (λ e. go (make-none g.files x.bundle c.file c.new c.room (eqb-true (make_fault g.files x.bundle c.file c.new c.room) 0 e)).0) (λ e. r)
    where
      go : try_fault g.files x.bundle c.file c.new ≡ 0 → Right g (next g x c)
      go e =
          record {
            fine = (bundle-after g.files x.bundle c.file c.new e).0;
            right = ap (changed_marks g c.file (files_after x.bundle c.file c.new)) r.right ∙ right-after x.bundle c.file c.new e;
          }

  pub stays-right : (cs : List Step) (x : State) → Right g x → Right g (after g cs x)
  unfolding after
  stays-right [] x r = r
  stays-right (c ∷ cs) x r = stays-right cs (stepped g x c) (step_right x c r)

  -- from a judged bundle on, the marks at hand are always those of a full judgement of the bundle at hand
  pub always-right : (s : List ℕ) → bundle_fault g.files s ≡ 0 → (cs : List Step) → Right g (after g cs (record { bundle = s; marks = (judgement g s).marks }))
  always-right s e cs = stays-right cs (record { bundle = s; marks = (judgement g s).marks }) (record { fine = e; right = ap (λ v. v.marks) (judged s e) })

  pub right-judged : (x : State) → Right g x → judgement g x.bundle ≡ answer 0 (length x.bundle) x.marks
  right-judged x r = rw (judged x.bundle r.fine, r.right)

  pub always-judged : (s : List ℕ) → bundle_fault g.files s ≡ 0 → (cs : List Step) → (t : List ℕ) (marks : Marks) → after g cs (record { bundle = s; marks = (judgement g s).marks }) ≡ record { bundle = t; marks = marks } → judgement g t ≡ answer 0 (length t) marks
  always-judged s e cs t marks q = right-judged (record { bundle = t; marks = marks }) (rw q at (always-right s e cs))

  -- a step is what the call that makes it hands back: its marks, and the front of its output
  module _ (x : State) (c : Step) where
    pub step-board : (change_made g x.bundle c.file c.new x.marks c.room).marks ≡ (stepped g x c).marks
    unfolding change_made answered accepted stepped next
    step-board = go (eqb (make_fault g.files x.bundle c.file c.new c.room) 0)
      where
        go : (t : Bool) → (cond t (accepted g x.bundle c.file c.new x.marks) (answer (make_fault g.files x.bundle c.file c.new c.room) 0 x.marks)).marks ≡ (cond t (next g x c) x).marks
        go true = refl
        go false = refl

    pub step-bundle : (out : List ℕ) → length out ≡ c.room → make_fault g.files x.bundle c.file c.new c.room ≡ 0 → take (change_made g x.bundle c.file c.new x.marks c.room).length (output g.files x.bundle c.file c.new out) ≡ (stepped g x c).bundle
    unfolding change_made answered accepted stepped next
    step-bundle out l e =
        rw (eq-eqb (make_fault g.files x.bundle c.file c.new c.room) 0 e) (output-read g.files x.bundle c.file c.new out (rw l e))

    pub step-refused : (make_fault g.files x.bundle c.file c.new c.room ≡ 0 → ⊥) → stepped g x c ≡ x
    unfolding stepped
    step-refused e = rw (ne_eqb (make_fault g.files x.bundle c.file c.new c.room) 0 e)

  -- ---- "Withdrawing an omitted file is accepted and changes no file."
  module _ (s : List ℕ) (k : ℕ) (none : is_omitted s k ≡ true) where
    pub withdraw-omitted : (i : ℕ) → files_after s k Left i ≡ file_at s i
    withdraw-omitted = unchanged-file g.files s k Left (omitted-file s k none)

    pub withdraw-accepted : bundle_fault g.files s ≡ 0 → k < g.files → try_fault g.files s k Left ≡ 0
    withdraw-accepted e l = unchanged-accepted g.files s k Left e l (omitted-file s k none)

    pub withdraw-bundle : bundle_fault g.files s ≡ 0 → Bytes s → bundle_of g.files (files_after s k Left) ≡ s
    withdraw-bundle e bs = unchanged-bundle g.files s k Left e bs (omitted-file s k none)
