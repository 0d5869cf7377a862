-- With room the calls over what is lent answer what the calls of a drawer answer; and what a change's call does, by its refusals.
-- Assumes nothing.
use Prim.Native.Nat.{ℕ}
use mathlib.Core.Path.{◌≡◌}
use mathlib.Core.List.{List}
use borrow.Author.Tests.{eq-eqb, ne_eqb}
use Rattle.parts.specs.Files.{File}
use Rattle.mark_numbers.specs.Marks.{Marks}
use Rattle.bundle_layout.specs.Change.{files_after}
use Rattle.gate_marks.specs.Gate.{Gate}
use Rattle.gate_calls.specs.Calls.{changed_marks}
use Rattle.gate_calls.specs.Lent.{lent_fault}
use Rattle.gate_calls.proofs.Lent.{lent-lists, lent-room}
use Rattle.drawer_held.specs.Drawer.{drawer_change_fault, drawer_made}
use Rattle.drawer_calls.specs.Calls.{drawer_answer, drawer_judged, drawer_changed}
use Rattle.drawer_calls.specs.Lent.{drawer_judged_in, drawer_changed_in, drawer_made_in}

-- ---- a change, by its refusal
module _ (g : Gate) (d : List ℕ) (k : ℕ) (f : File) (handed : Marks) where
  pub changed-well : drawer_change_fault g.files d k f ≡ 0 → drawer_changed g d k f handed ≡ drawer_answer 0 (changed_marks g k (files_after d k f) handed)
  unfolding drawer_changed
  changed-well e = rw (eq-eqb (drawer_change_fault g.files d k f) 0 e)

  pub changed-not : (drawer_change_fault g.files d k f ≡ 0 → ⊥) → drawer_changed g d k f handed ≡ drawer_answer (drawer_change_fault g.files d k f) handed
  unfolding drawer_changed
  changed-not e = rw (ne_eqb (drawer_change_fault g.files d k f) 0 e)

-- ---- with room
module _ (g : Gate) (d : List ℕ) (lent : ℕ) (handed : Marks) (room : lent_fault g lent handed ≡ 0) where
  pub lent-judge : drawer_judged_in g d lent handed ≡ drawer_judged g d
  unfolding drawer_judged_in
  lent-judge = rw (lent-lists g lent handed room, lent-room g lent handed room)

  module _ (k : ℕ) (f : File) where
    pub lent-change : drawer_changed_in g d k f lent handed ≡ drawer_changed g d k f handed
    unfolding drawer_changed_in
    lent-change = rw (eq-eqb (lent_fault g lent handed) 0 room)

    pub lent-drawer : drawer_made_in g d k f lent handed ≡ drawer_made g.files d k f
    unfolding drawer_made_in
    lent-drawer = rw (eq-eqb (lent_fault g lent handed) 0 room)

-- ---- without
module _ (g : Gate) (d : List ℕ) (lent : ℕ) (handed : Marks) (short : lent_fault g lent handed ≡ 0 → ⊥) (k : ℕ) (f : File) where
  pub lent-refused : drawer_changed_in g d k f lent handed ≡ drawer_answer (lent_fault g lent handed) handed
  unfolding drawer_changed_in
  lent-refused = rw (ne_eqb (lent_fault g lent handed) 0 short)

  pub lent-untouched : drawer_made_in g d k f lent handed ≡ d
  unfolding drawer_made_in
  lent-untouched = rw (ne_eqb (lent_fault g lent handed) 0 short)
