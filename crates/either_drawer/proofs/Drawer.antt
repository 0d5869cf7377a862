-- Document 02, order 13: "For the drawer this holds of files and board, not of positions."
-- Assumes nothing.
use Prim.Native.Nat.{ℕ, ◌<◌}
use mathlib.Core.Path.{◌≡◌, refl, sym, ap, ◌∙◌}
use mathlib.Core.List.{List}
use borrow.Author.Tests.{eq-eqb}
use lib.ListN.{length}
use Rattle.mark_numbers.proofs.Laws.{Long, marks-long}
use Rattle.bundle_bytes.specs.Pieces.{changed}
use Rattle.bundle_layout.specs.Bundle.{file_at, bundle_of}
use Rattle.bundle_layout.specs.Change.{files_after}
use Rattle.bundle_layout.proofs.RoundTrip.{bundle-same, length-same}
use Rattle.gate_marks.specs.Gate.{Gate, marks_of}
use Rattle.gate_marks.specs.Marks.{mark_at, full_marks}
use Rattle.gate_calls.specs.Calls.{changed_marks}
use Rattle.drawer_held.specs.Drawer.{drawer_fault, drawer_after, drawer_made}
use Rattle.drawer_held.proofs.Laws.{change-none, change-fine, held-fine}
use Rattle.drawer_meaning.proofs.Kept.{after-length, layout-kept, files-after}
use Rattle.drawer_bundles.proofs.Room.{bundle-fits}
use Rattle.drawer_calls.specs.Sequence.{DrawerStep, DrawerState, drawer_stepped}
use Rattle.drawer_calls.proofs.Lent.{changed-well}
use Rattle.either_first.specs.Undone.{RightFor}
use Rattle.either_first.proofs.Files.{files-back, marks-back, files-either, marks-either, marks-restored, restored-right, full-right}
use Rattle.either_drawer.specs.Either.{Accepted, BothOrders, Same, undoing}

-- ---- an accepted change
module _ (g : Gate) (x : DrawerState) (c : DrawerStep) (accepted : Accepted g x c) where
  drawer-is : (drawer_stepped g x c).drawer ≡ drawer_after g.files x.drawer c.file c.new
  unfolding Accepted drawer_stepped drawer_made
  drawer-is = rw (eq-eqb _ 0 accepted)

  board-is : (drawer_stepped g x c).marks ≡ changed_marks g c.file (changed (file_at x.drawer) c.file c.new) x.marks
  unfolding Accepted drawer_stepped files_after
  board-is = ap (λ r. r.marks) (changed-well g x.drawer c.file c.new x.marks accepted)

  -- the files at hand then
  files-left : (i : ℕ) → i < g.files → file_at (drawer_stepped g x c).drawer i ≡ changed (file_at x.drawer) c.file c.new i
  unfolding Accepted files_after
  files-left i l = ap (λ d. file_at d i) drawer-is ∙ files-after g.files x.drawer c.file c.new accepted i l

-- ---- two changes of two files, accepted in both orders, from any handed board: one set and one board
module _ (g : Gate) (x : DrawerState) (c d : DrawerStep) (apart : c.file ≡ d.file → ⊥) (both : BothOrders g x c d) where
  pub either_first : Same g (drawer_stepped g (drawer_stepped g x c) d) (drawer_stepped g (drawer_stepped g x d) c)
  either_first =
      record {
        files = λ i l. files-left g (drawer_stepped g x c) d both.then-d i l ∙ files-either g (file_at x.drawer) c.file d.file c.new d.new apart (file_at (drawer_stepped g x c).drawer) (file_at (drawer_stepped g x d).drawer) (files-left g x c both.c-first) (files-left g x d both.d-first) i l ∙ sym (files-left g (drawer_stepped g x d) c both.then-c i l);
        board =
            board-is g (drawer_stepped g x c) d both.then-d
            ∙ rw (board-is g x c both.c-first, board-is g x d both.d-first) (marks-either g (file_at x.drawer) c.file d.file c.new d.new apart (file_at (drawer_stepped g x c).drawer) (file_at (drawer_stepped g x d).drawer) (files-left g x c both.c-first) (files-left g x d both.d-first) x.marks)
            ∙ sym (board-is g (drawer_stepped g x d) c both.then-c);
      }

  -- so the bundle of the files is one, byte for byte
  pub bundle-either : bundle_of g.files (file_at (drawer_stepped g (drawer_stepped g x c) d).drawer) ≡ bundle_of g.files (file_at (drawer_stepped g (drawer_stepped g x d) c).drawer)
  bundle-either = bundle-same g.files _ _ either_first.files

-- ---- a change undone
module _ (g : Gate) (x : DrawerState) (c : DrawerStep) (accepted : Accepted g x c) where
  abbrev now : List ℕ
  now = (drawer_stepped g x c).drawer

  back : (i : ℕ) → i < g.files → changed (file_at now) c.file (file_at x.drawer c.file) i ≡ file_at x.drawer i
  back = files-back g (file_at x.drawer) c.file c.new (file_at now) (files-left g x c accepted)

  -- nothing can refuse it: the files had room before, and the drawer is as long as it was
  pub undo-accepted : Accepted g (drawer_stepped g x c) (undoing x c)
  unfolding Accepted undoing files_after
  undo-accepted =
      let old = change-none g.files x.drawer c.file c.new accepted in
      let long : length now ≡ length x.drawer = ap length (drawer-is g x c accepted) ∙ after-length g.files x.drawer c.file c.new accepted in
      sym (change-fine g.files now c.file (held-fine g.files now c.file (sym fine) refl old.1) (file_at x.drawer c.file) refl (sym (length-same g.files _ _ back)) (rw long (bundle-fits g.files x.drawer old.0)))
    where
      fine : drawer_fault g.files now ≡ 0
      fine = ap (drawer_fault g.files) (drawer-is g x c accepted) ∙ layout-kept g.files x.drawer c.file c.new accepted

  -- the files come back, each with its bytes
  pub files-undone : (i : ℕ) → i < g.files → file_at (drawer_stepped g (drawer_stepped g x c) (undoing x c)).drawer i ≡ file_at x.drawer i
  unfolding undoing
  files-undone i l = files-left g (drawer_stepped g x c) (undoing x c) undo-accepted i l ∙ back i l

  -- the board in full, whatever was handed in
  pub board-undone : (drawer_stepped g (drawer_stepped g x c) (undoing x c)).marks ≡ changed_marks g c.file (file_at x.drawer) x.marks
  unfolding undoing
  board-undone =
      board-is g (drawer_stepped g x c) (undoing x c) undo-accepted
      ∙ rw (board-is g x c accepted) (marks-back g (file_at x.drawer) c.file c.new (file_at now) (files-left g x c accepted) x.marks)

  -- everything comes back exactly if the marks that read the file were right
  pub undo : Long (marks_of g) x.marks → RightFor g c.file (file_at x.drawer) x.marks → Same g (drawer_stepped g (drawer_stepped g x c) (undoing x c)) x
  undo long right =
      record { files = files-undone; board = board-undone ∙ marks-restored g (file_at x.drawer) c.file c.new x.marks long right }

  pub undone-right : Same g (drawer_stepped g (drawer_stepped g x c) (undoing x c)) x → RightFor g c.file (file_at x.drawer) x.marks
  undone-right same = restored-right g (file_at x.drawer) c.file c.new x.marks (sym board-undone ∙ same.board)

  -- "and a board from full judgement"
  pub undo-judged : x.marks ≡ full_marks g (file_at x.drawer) → Same g (drawer_stepped g (drawer_stepped g x c) (undoing x c)) x
  unfolding full_marks
  undo-judged r =
      undo (rw r (marks-long (marks_of g) (λ m. mark_at g m (file_at x.drawer)))) (rw r (full-right g (file_at x.drawer) c.file))
