-- The list after a call: the entries that the call left as numbers in the workspace.
-- Assumes nothing.
use Prim.Native.Nat.{ℕ, ◌≤◌}
use mathlib.Core.Path.{◌≡◌, refl, ap, ◌∙◌}
use mathlib.Core.Bool.{Bool, true, false, cond}
use mathlib.Core.List.{List, ◌++◌}
use borrow.Author.Tests.{eqb-true, eqb-false}
use lib.ListN.{length, drop}
use lib.Dec.{eqb}
use Rattle.parts.specs.Files.{File}
use Rattle.entries.specs.declared.Entry.{Entry}
use Rattle.entries.specs.Flat.{entries_in}
use Rattle.gate_marks.specs.declared.Scope.{Scope}
use Rattle.gate_calls.specs.Calls.{Answer}
use Rattle.schedule.specs.Schedule.{schedule}
use Rattle.set_entries.specs.Entries.{set_entries}
use Rattle.set_entries.specs.Work.{list_space_of}
use Rattle.set_entries.proofs.There.{entries-back}
use Rattle.gate_flat.specs.declared.Listed.{Listed}
use Rattle.gate_flat.specs.Listed.{list_after, listed_of, list_left}
use Rattle.gate_flat.proofs.Left.{none, many, there}

module _ (scope : Scope) (files : ℕ → File) (work : List ℕ) (ls : List Entry) (x : Answer) where
  abbrev es : List Entry
  es = set_entries schedule scope files

  module _ (room : x.refusal ≡ 0 → (list_space_of schedule ≤ length work) × (length es ≤ length ls)) {r : Listed} (r-is : r ≡ listed_of es x) {left : List ℕ} (left_is : left ≡ list_left schedule scope files r.refusal work) where
    pub list-after : {ys : List Entry} → ys ≡ entries_in left 794702 r.entries ++ drop r.entries ls → ys ≡ list_after r.refusal es ls
    unfolding list_after entries_in
    list-after {ys} e = go (eqb r.refusal 0) refl
      where
        go : (t : Bool) → eqb r.refusal 0 ≡ t → ys ≡ cond t (es ++ drop (length es) ls) ls
        go true q =
            let z = eqb-true r.refusal 0 q in
            e ∙ rw (many scope files work (length ls) x room r-is left_is z) (ap (λ l. l ++ drop (length es) ls) (entries-back left 794702 es (there scope files work (length ls) x room r-is left_is z)))
        go false q = e ∙ rw (none scope files work (length ls) x room r-is left_is (eqb-false r.refusal 0 q))
