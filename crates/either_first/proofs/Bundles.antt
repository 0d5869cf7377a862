-- Document 02, order 13, for bundles: "Show that such changes, accepted in both orders, end in one board and one bundle, byte for
-- byte, and that undoing a change at once, by the old bytes or withdrawal, where that is accepted, restores the bundle and a
-- board from full judgement."
-- Assumes nothing.
use Prim.Native.Nat.{ℕ, ◌≤◌, ◌<◌}
use mathlib.Core.Path.{◌≡◌, sym, ap, ◌∙◌}
use mathlib.Core.Bool.{cond}
use borrow.Author.Tests.{eq-eqb, le-ltb}
use lib.ListN.{length}
use lib.Dec.{ltb}
use Rattle.bundle_bytes.specs.Pieces.{changed}
use Rattle.bundle_bytes.proofs.Laws.{Bytes}
use Rattle.mark_numbers.proofs.Laws.{Long, marks-long}
use Rattle.bundle_layout.specs.Bundle.{file_at, bundle_length}
use Rattle.bundle_layout.specs.Change.{files_after, try_fault, make_fault}
use Rattle.bundle_layout.proofs.Laws.{fault-size, valid-length, try-none, try-fine, make-none}
use Rattle.bundle_layout.proofs.RoundTrip.{bundle-same, length-same, after-change, written-again}
use Rattle.gate_marks.specs.Gate.{Gate, marks_of}
use Rattle.gate_marks.specs.Marks.{mark_at, full_marks}
use Rattle.gate_calls.specs.Calls.{changed_marks}
use Rattle.gate_calls.specs.Sequence.{Step, State, next, stepped}
use Rattle.gate_calls.proofs.Demand3.{Right}
use Rattle.either_first.specs.Undone.{Accepted, BothOrders, undoing, RightFor}
use Rattle.either_first.proofs.Files.{files-back, marks-back, files-either, marks-either, marks-restored, restored-right, full-right}

state-same : (a b : State) → a.bundle ≡ b.bundle → a.marks ≡ b.marks → a ≡ b
state-same a b e q = rw (e, q)

-- a step that is accepted is made
pub made : (g : Gate) (x : State) (c : Step) → Accepted g x c → stepped g x c ≡ next g x c
unfolding stepped Accepted
made g x c e = rw (eq-eqb (make_fault g.files x.bundle c.file c.new c.room) 0 e)

module _ (g : Gate) (x : State) where
  can-try : (c : Step) → Accepted g x c → try_fault g.files x.bundle c.file c.new ≡ 0
  unfolding Accepted
  can-try c e = (make-none g.files x.bundle c.file c.new c.room e).0

  -- the files at hand after a step
  files-left : (c : Step) → Accepted g x c → (i : ℕ) → i < g.files → file_at (next g x c).bundle i ≡ changed (file_at x.bundle) c.file c.new i
  unfolding next files_after
  files-left c e = (after-change g.files x.bundle c.file c.new (can-try c e)).1

  -- ---- two changes of two files, accepted in both orders, from any handed board
  module _ (c d : Step) (apart : c.file ≡ d.file → ⊥) (e : Accepted g x c) (h : Accepted g x d) where
    pub bundles-either : (next g (next g x c) d).bundle ≡ (next g (next g x d) c).bundle
    unfolding next files_after
    bundles-either =
        bundle-same g.files (files_after (next g x c).bundle d.file d.new) (files_after (next g x d).bundle c.file c.new)
        (files-either g (file_at x.bundle) c.file d.file c.new d.new apart (file_at (next g x c).bundle) (file_at (next g x d).bundle) (files-left c e) (files-left d h))

    boards-either : (next g (next g x c) d).marks ≡ (next g (next g x d) c).marks
    unfolding next files_after
    boards-either =
        marks-either g (file_at x.bundle) c.file d.file c.new d.new apart (file_at (next g x c).bundle) (file_at (next g x d).bundle) (files-left c e) (files-left d h) x.marks

  pub either_first : (c d : Step) → (c.file ≡ d.file → ⊥) → BothOrders g x c d → stepped g (stepped g x c) d ≡ stepped g (stepped g x d) c
  either_first c d apart both =
      rw (made g x c both.c-first, made g x d both.d-first) ends
    where
      same : next g (next g x c) d ≡ next g (next g x d) c
      same =
          state-same (next g (next g x c) d) (next g (next g x d) c)
          (bundles-either c d apart both.c-first both.d-first) (boards-either c d apart both.c-first both.d-first)

      ends : stepped g (next g x c) d ≡ stepped g (next g x d) c
      ends = made g (next g x c) d both.then-d ∙ same ∙ sym (made g (next g x d) c both.then-c)

  -- ---- a change undone
  module _ (c : Step) (e : Accepted g x c) (room : ℕ) where
    -- the files are those from before
    undone-files : (i : ℕ) → i < g.files → files_after (next g x c).bundle c.file (file_at x.bundle c.file) i ≡ file_at x.bundle i
    unfolding files_after
    undone-files = files-back g (file_at x.bundle) c.file c.new (file_at (next g x c).bundle) (files-left c e)

    undone-length : bundle_length g.files (files_after (next g x c).bundle c.file (file_at x.bundle c.file)) ≡ length x.bundle
    undone-length =
        length-same g.files (files_after (next g x c).bundle c.file (file_at x.bundle c.file)) (file_at x.bundle) undone-files
        ∙ valid-length g.files x.bundle (try-none g.files x.bundle c.file c.new (can-try c e)).0

    -- no refusal but 5 can meet it, and that exactly where the output is shorter than the bundle was
    pub undo-refusal : make_fault g.files (next g x c).bundle c.file (file_at x.bundle c.file) room ≡ cond (ltb room (length x.bundle)) 5 0
    unfolding make_fault next
    undo-refusal =
        rw (eq-eqb (try_fault g.files (next g x c).bundle c.file (file_at x.bundle c.file)) 0 fine, undone-length)
      where
        fine : try_fault g.files (next g x c).bundle c.file (file_at x.bundle c.file) ≡ 0
        fine =
            try-fine g.files (next g x c).bundle c.file (file_at x.bundle c.file) (after-change g.files x.bundle c.file c.new (can-try c e)).0
            (try-none g.files x.bundle c.file c.new (can-try c e)).1
            (rw undone-length (fault-size g.files x.bundle (try-none g.files x.bundle c.file c.new (can-try c e)).0).1)

    pub undo-accepted : length x.bundle ≤ room → Accepted g (next g x c) (undoing x c room)
    unfolding Accepted undoing
    undo-accepted l = undo-refusal ∙ rw (le-ltb room (length x.bundle) l)

    -- the bundle comes back byte for byte
    pub bundle-undone : Bytes x.bundle → (next g (next g x c) (undoing x c room)).bundle ≡ x.bundle
    unfolding next undoing
    bundle-undone bytes =
        bundle-same g.files (files_after (next g x c).bundle c.file (file_at x.bundle c.file)) (file_at x.bundle) undone-files
        ∙ written-again g.files x.bundle (try-none g.files x.bundle c.file c.new (can-try c e)).0 bytes

    -- the board in full, whatever was handed in
    pub board-undone : (next g (next g x c) (undoing x c room)).marks ≡ changed_marks g c.file (file_at x.bundle) x.marks
    unfolding next undoing files_after
    board-undone = marks-back g (file_at x.bundle) c.file c.new (file_at (next g x c).bundle) (files-left c e) x.marks

    -- everything comes back exactly if the marks that read the file were right
    pub undo : Bytes x.bundle → Long (marks_of g) x.marks → RightFor g c.file (file_at x.bundle) x.marks → next g (next g x c) (undoing x c room) ≡ x
    undo bytes long right =
        state-same (next g (next g x c) (undoing x c room)) x (bundle-undone bytes)
        (board-undone ∙ marks-restored g (file_at x.bundle) c.file c.new x.marks long right)

    pub undone-right : next g (next g x c) (undoing x c room) ≡ x → RightFor g c.file (file_at x.bundle) x.marks
    undone-right q =
        restored-right g (file_at x.bundle) c.file c.new x.marks (sym board-undone ∙ ap (λ y. y.marks) q)

    -- "and a board from full judgement"
    pub undo-judged : Bytes x.bundle → Right g x → next g (next g x c) (undoing x c room) ≡ x
    unfolding full_marks
    undo-judged bytes r =
        undo bytes (rw r.right (marks-long (marks_of g) (λ m. mark_at g m (file_at x.bundle)))) (rw r.right (full-right g (file_at x.bundle) c.file))
