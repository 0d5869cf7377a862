-- A drawer beside the bundle of its files: "the board is the one this change to its bundle would give". Document 02, order 12.
-- Assumes nothing.
use Prim.Native.Nat.{ℕ, ◌<◌}
use mathlib.Core.Path.{◌≡◌, sym, ap, ◌∙◌}
use mathlib.Core.Bool.{cond}
use mathlib.Core.List.{List}
use native.Mathlib.Omega.{arith}
use borrow.Author.Tests.{eq-eqb}
use lib.Dec.{eqb}
use Rattle.parts.specs.Files.{File}
use Rattle.bundle_bytes.specs.Pieces.{changed}
use Rattle.mark_numbers.specs.Marks.{Marks}
use Rattle.bundle_layout.specs.Bundle.{bundle_fault, file_at, bundle_of}
use Rattle.bundle_layout.specs.Change.{files_after, try_fault}
use Rattle.bundle_layout.proofs.Laws.{try-fine}
use Rattle.bundle_layout.proofs.RoundTrip.{bundle-same, length-same, read_back, bundle-accepted}
use Rattle.gate_marks.specs.Gate.{Gate}
use Rattle.gate_calls.specs.Calls.{Answer, judgement, accepted, tried}
use Rattle.gate_calls.proofs.Demand3.{full-same, judged, tried-well}
use Rattle.either_first.proofs.Files.{changed-below}
use Rattle.drawer_held.specs.Drawer.{drawer_fault, drawer_change_fault, drawer_after}
use Rattle.drawer_held.proofs.Laws.{drawer-size, change-none}
use Rattle.drawer_bundles.proofs.Room.{bundle-small}
use Rattle.drawer_meaning.proofs.Kept.{files-after}
use Rattle.drawer_calls.specs.Calls.{DrawerAnswer, drawer_answer, drawer_judged, drawer_changed}
use Rattle.drawer_calls.proofs.Lent.{changed-well}

-- the answer of a bundle's call as one of a drawer's, which has no length to tell
unfoldable pub answer_of : Answer → DrawerAnswer
answer_of x = drawer_answer x.refusal x.marks

changed-as : {A : Type 0} (files others : ℕ → A) (k : ℕ) (f : A) (i : ℕ) → files i ≡ others i → changed files k f i ≡ changed others k f i
unfolding changed
changed-as files others k f i e = ap (cond (eqb i k) f) e

module _ (g : Gate) (d : List ℕ) (fine : drawer_fault g.files d ≡ 0) where
  -- the bundle of a drawer's files is one, and has these files
  abbrev pub bundle : List ℕ
  bundle = bundle_of g.files (file_at d)

  pub is-bundle : bundle_fault g.files bundle ≡ 0
  is-bundle = bundle-accepted g.files (file_at d) (bundle-small g.files d fine)

  pub same-files : (i : ℕ) → i < g.files → file_at bundle i ≡ file_at d i
  same-files i l = read_back g.files (file_at d) (omega (arith, bundle-small g.files d fine)) i l

  -- a drawer is judged as its bundle is
  pub judged-as-bundle : drawer_judged g d ≡ answer_of (judgement g bundle)
  unfolding drawer_judged answer_of
  judged-as-bundle =
      rw (eq-eqb (drawer_fault g.files d) 0 fine, judged g bundle is-bundle) (ap (drawer_answer 0) (sym (full-same g (file_at bundle) (file_at d) same-files)))

module _ (g : Gate) (d : List ℕ) (k : ℕ) (f : File) (handed : Marks) (fine : drawer_change_fault g.files d k f ≡ 0) where
  pub drawer-fine : drawer_fault g.files d ≡ 0
  drawer-fine = (change-none g.files d k f fine).0

  after_same : (i : ℕ) → i < g.files → files_after (bundle g d drawer-fine) k f i ≡ files_after d k f i
  unfolding files_after
  after_same i l = changed-as (file_at (bundle g d drawer-fine)) (file_at d) k f i (same-files g d drawer-fine i l)

  -- what a drawer has room for is never 6
  pub bundle-takes : try_fault g.files (bundle g d drawer-fine) k f ≡ 0
  bundle-takes =
      try-fine g.files (bundle g d drawer-fine) k f (is-bundle g d drawer-fine) (change-none g.files d k f fine).1
      (omega (arith, length-same g.files (files_after (bundle g d drawer-fine) k f) (files_after d k f) after_same, (change-none g.files d k f fine).2, (drawer-size g.files d drawer-fine).1))

  -- "the board is the one this change to its bundle would give", from any handed board
  pub changed-as-bundle : drawer_changed g d k f handed ≡ answer_of (tried g (bundle g d drawer-fine) k f handed)
  unfolding answer_of accepted
  changed-as-bundle =
      changed-well g d k f handed fine ∙ sym (ap answer_of (tried-well g (bundle g d drawer-fine) k f handed bundle-takes) ∙ ap (drawer_answer 0) (changed-below g k (files_after (bundle g d drawer-fine) k f) (files_after d k f) handed after_same))

  -- and the drawer's files after it make the bundle that this change makes of its bundle
  pub bundle-after : bundle_of g.files (file_at (drawer_after g.files d k f)) ≡ bundle_of g.files (files_after (bundle g d drawer-fine) k f)
  bundle-after =
      bundle-same g.files (file_at (drawer_after g.files d k f)) (files_after (bundle g d drawer-fine) k f) (λ i l. files-after g.files d k f fine i l ∙ sym (after_same i l))
