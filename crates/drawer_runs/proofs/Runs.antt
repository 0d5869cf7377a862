-- Demands 1 to 3 for drawers, over any list of changes: after each the drawer is one, of the same length, its files are those
-- that the changes leave, and the marks at hand are those of a full judgement of it.
-- Assumes nothing.
use Prim.Native.Nat.{ℕ}
use mathlib.Core.Path.{◌≡◌, refl, sym, ap, ◌∙◌}
use mathlib.Core.Bool.{Bool, true, false}
use mathlib.Core.List.{List, [], ◌∷◌}
use borrow.Author.Tests.{eq-eqb, ne_eqb, eqb-true, eqb-false}
use lib.ListN.{length}
use lib.Dec.{eqb}
use Rattle.parts.specs.Files.{File}
use Rattle.mark_numbers.specs.Marks.{Marks}
use Rattle.bundle_layout.specs.Bundle.{file_at}
use Rattle.bundle_layout.specs.Change.{files_after}
use Rattle.gate_marks.specs.Gate.{Gate}
use Rattle.gate_marks.specs.Marks.{full_marks}
use Rattle.gate_calls.proofs.Demand3.{full-same, after-change}
use Rattle.drawer_held.specs.Drawer.{drawer_fault, drawer_change_fault, drawer_after, drawer_made}
use Rattle.drawer_meaning.proofs.Kept.{files-after, layout-kept, after-length}
use Rattle.drawer_calls.specs.Calls.{drawer_answer, drawer_judged, drawer_changed}
use Rattle.drawer_calls.specs.Sequence.{DrawerStep, DrawerState, drawer_stepped, after_drawer_steps}
use Rattle.drawer_calls.proofs.Lent.{changed-well, changed-not}

-- a drawer, and marks that are those of its files
pub record Right (g : Gate) (x : DrawerState) : Type 0 where
  pub fine : drawer_fault g.files x.drawer ≡ 0
  pub right : x.marks ≡ full_marks g (file_at x.drawer)

module _ (g : Gate) where
  -- ---- one change that is made
  module _ (d : List ℕ) (k : ℕ) (f : File) (fine : drawer_change_fault g.files d k f ≡ 0) where
    pub made_so : drawer_made g.files d k f ≡ drawer_after g.files d k f
    unfolding drawer_made
    made_so = rw (eq-eqb (drawer_change_fault g.files d k f) 0 fine)

    -- its board is that of a full judgement of the drawer as it now stands, where the handed one was right
    pub right-after : (drawer_changed g d k f (full_marks g (file_at d))).marks ≡ full_marks g (file_at (drawer_made g.files d k f))
    right-after =
        ap (λ x. x.marks) (changed-well g d k f (full_marks g (file_at d)) fine) ∙ after-change g d k f
        ∙ sym (ap (λ s. full_marks g (file_at s)) made_so ∙ full-same g (file_at (drawer_after g.files d k f)) (files_after d k f) (files-after g.files d k f fine))

    pub drawer-again : drawer_fault g.files (drawer_made g.files d k f) ≡ 0
    drawer-again = ap (drawer_fault g.files) made_so ∙ layout-kept g.files d k f fine

  -- ---- one that is refused: "with drawer and board untouched"
  module _ (d : List ℕ) (k : ℕ) (f : File) (handed : Marks) (refused : drawer_change_fault g.files d k f ≡ 0 → ⊥) where
    pub drawer-untouched : drawer_made g.files d k f ≡ d
    unfolding drawer_made
    drawer-untouched = rw (ne_eqb (drawer_change_fault g.files d k f) 0 refused)

    pub board-untouched : (drawer_changed g d k f handed).marks ≡ handed
    board-untouched = ap (λ x. x.marks) (changed-not g d k f handed refused)

  -- ---- any number of changes, made and refused
  by-refusal : {A : Type 0} (n : ℕ) → (n ≡ 0 → A) → ((n ≡ 0 → ⊥) → A) → A
  by-refusal {A} n so not_so = go (eqb n 0) refl
    where
      go : (t : Bool) → eqb n 0 ≡ t → A
      go true e = so (eqb-true n 0 e)
      go false e = not_so (eqb-false n 0 e)

  pub step_right : (x : DrawerState) (c : DrawerStep) → Right g x → Right g (drawer_stepped g x c)
  unfolding drawer_stepped
  step_right x c r = by-refusal (drawer_change_fault g.files x.drawer c.file c.new)
      (λ e. record {
        fine = drawer-again x.drawer c.file c.new e;
        right = ap (λ m. (drawer_changed g x.drawer c.file c.new m).marks) r.right ∙ right-after x.drawer c.file c.new e;
      })
      (λ n. record {
        fine = ap (drawer_fault g.files) (drawer-untouched x.drawer c.file c.new x.marks n) ∙ r.fine;
        right = board-untouched x.drawer c.file c.new x.marks n ∙ r.right ∙ sym (ap (λ s. full_marks g (file_at s)) (drawer-untouched x.drawer c.file c.new x.marks n));
      })

  pub stays-right : (cs : List DrawerStep) (x : DrawerState) → Right g x → Right g (after_drawer_steps g cs x)
  unfolding after_drawer_steps
  stays-right [] x r = r
  stays-right (c ∷ cs) x r = stays-right cs (drawer_stepped g x c) (step_right x c r)

  judged-right : (x : DrawerState) → Right g x → drawer_answer 0 x.marks ≡ drawer_judged g x.drawer
  unfolding drawer_judged
  judged-right x r = rw (eq-eqb (drawer_fault g.files x.drawer) 0 r.fine) (ap (drawer_answer 0) r.right)

  -- from a judged drawer on, the board at hand is always that of a full judgement of the drawer at hand
  pub always-right : (d : List ℕ) → drawer_fault g.files d ≡ 0 → (cs : List DrawerStep) → Right g (after_drawer_steps g cs (record { drawer = d; marks = (drawer_judged g d).marks }))
  unfolding drawer_judged
  always-right d e cs =
      stays-right cs (record { drawer = d; marks = (drawer_judged g d).marks }) (record { fine = e; right = ap (λ x. x.marks) start })
    where
      start : drawer_judged g d ≡ drawer_answer 0 (full_marks g (file_at d))
      start = rw (eq-eqb (drawer_fault g.files d) 0 e)

  pub always-judged : (d : List ℕ) → drawer_fault g.files d ≡ 0 → (cs : List DrawerStep) → drawer_answer 0 (after_drawer_steps g cs (record { drawer = d; marks = (drawer_judged g d).marks })).marks ≡ drawer_judged g (after_drawer_steps g cs (record { drawer = d; marks = (drawer_judged g d).marks })).drawer
  always-judged d e cs = judged-right (after_drawer_steps g cs (record { drawer = d; marks = (drawer_judged g d).marks })) (always-right d e cs)

  -- a drawer keeps its length
  step-length : (x : DrawerState) (c : DrawerStep) → length (drawer_stepped g x c).drawer ≡ length x.drawer
  unfolding drawer_stepped
  step-length x c = by-refusal (drawer_change_fault g.files x.drawer c.file c.new)
      (λ e. ap length (made_so x.drawer c.file c.new e) ∙ after-length g.files x.drawer c.file c.new e)
      (λ n. ap length (drawer-untouched x.drawer c.file c.new x.marks n))

  pub same_length : (cs : List DrawerStep) (x : DrawerState) → length (after_drawer_steps g cs x).drawer ≡ length x.drawer
  unfolding after_drawer_steps
  same_length [] x = refl
  same_length (c ∷ cs) x = same_length cs (drawer_stepped g x c) ∙ step-length x c
