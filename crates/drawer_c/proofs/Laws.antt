-- How the drawer's calls end that other programs make.
-- Assumes nothing.
use Prim.Native.Nat.{ℕ, ◌≤◌, ◌<◌}
use mathlib.Core.Path.{◌≡◌, refl}
use mathlib.Core.List.{List}
use borrow.Author.Tests.{eq-eqb, ne_eqb, lt-ltb, le-ltb}
use lib.ListN.{length}
use Rattle.mark_numbers.specs.Marks.{Marks}
use Rattle.gate_calls.specs.Lent.{work_left, change_left}
use Rattle.schedule.specs.Schedule.{schedule}
use Rattle.drawer_calls.specs.Calls.{DrawerAnswer}
use Rattle.drawer_calls.specs.Lent.{drawer_changed_in, drawer_made_in}
use Rattle.drawer_c.specs.Calls.{file_handed, change_called, drawer_called, number_left}

-- ---- a change: 101 leaves everything as it is, else the call is the one over lists
module _ (d : List ℕ) (file present : ℕ) (bytes : List ℕ) (handed : Marks) (work : List ℕ) where
  abbrev answered : DrawerAnswer
  answered = change_called d file present bytes (length work) handed

  abbrev whole : DrawerAnswer
  whole = drawer_changed_in schedule d file (file_handed present bytes) (length work) handed

  abbrev made : List ℕ
  made = drawer_made_in schedule d file (file_handed present bytes) (length work) handed

  abbrev Left : ℕ → List ℕ → Type 0
  Left r last = last ≡ change_left schedule d file (file_handed present bytes) r work

  module _ (other : 1 < present) where
    pub try-ill : (101 ≡ answered.refusal) × ((handed ≡ answered.marks) × Left 101 work)
    unfolding change_called change_left work_left
    try-ill = rw (lt-ltb 1 present other) (refl, (refl, refl))

    pub make-ill : (101 ≡ answered.refusal) × ((handed ≡ answered.marks) × ((d ≡ drawer_called d file present bytes (length work) handed) × Left 101 work))
    unfolding drawer_called
    make-ill = (try-ill.0, (try-ill.1.0, (rw (lt-ltb 1 present other), try-ill.1.1)))

  module _ (known : present ≤ 1) {r : ℕ} {marks : Marks} {last : List ℕ} where
    pub try-well : (r ≡ whole.refusal) × ((marks ≡ whole.marks) × Left r last) → (r ≡ answered.refusal) × ((marks ≡ answered.marks) × Left r last)
    unfolding change_called
    try-well h = rw (le-ltb 1 present known) h

    pub make-well : {after : List ℕ} → (r ≡ whole.refusal) × ((marks ≡ whole.marks) × ((after ≡ made) × Left r last))
        → (r ≡ answered.refusal) × ((marks ≡ answered.marks) × ((after ≡ drawer_called d file present bytes (length work) handed) × Left r last))
    unfolding change_called drawer_called
    make-well h = rw (le-ltb 1 present known) h

-- ---- a number that is put down where the call is not refused
module _ (r new old : ℕ) where
  pub put-down : {given : ℕ} → r ≡ 0 → given ≡ new → given ≡ number_left r new old
  unfolding number_left
  put-down none e = rw (eq-eqb r 0 none) e

  pub as_it_was : (r ≡ 0 → ⊥) → old ≡ number_left r new old
  unfolding number_left
  as_it_was some = rw (ne_eqb r 0 some)
