-- What a call with a change answers and leaves, with a fault of its own and without.
-- Assumes nothing.
use Prim.Native.Nat.{ℕ, ◌≤◌, ◌<◌}
use mathlib.Core.Path.{◌≡◌, refl, ap}
use mathlib.Core.List.{List}
use borrow.Author.Tests.{lt-ltb, le-ltb}
use Rattle.parts.specs.Files.{File}
use Rattle.mark_numbers.specs.Marks.{Marks}
use Rattle.bundle_layout.specs.Change.{files_after}
use Rattle.entries.specs.declared.Entry.{Entry}
use Rattle.gate_marks.specs.declared.Scope.TheVariants.{Change}
use Rattle.gate_calls.specs.Calls.{Answer}
use Rattle.schedule.specs.Schedule.{schedule}
use Rattle.set_entries.specs.Entries.{set_entries}
use Rattle.gate_flat.specs.declared.Listed.{Listed}
use Rattle.gate_flat.specs.Listed.{output_after, listed_of, list_left}
use Rattle.listed_numbers.specs.Numbers.{numbers_after}
use Rattle.listed_c.specs.Calls.{file_handed, list_called}

module _ (s : List ℕ) (file present : ℕ) (bytes list work : List ℕ) (handed : Marks) where
  abbrev after : ℕ → File
  after = files_after s file (file_handed present bytes)

  abbrev entries : List Entry
  entries = set_entries schedule (Change file) after

  module _ (whole : Answer) where
    abbrev Left : ℕ → Marks → List ℕ → ℕ → ℕ → List ℕ → Type 0
    Left refusal marks listed count size left =
        (refusal ≡ (list_called present handed whole).refusal)
        × ((marks ≡ (list_called present handed whole).marks)
        × ((listed ≡ numbers_after refusal entries list)
        × ((count ≡ (listed_of entries (list_called present handed whole)).entries)
        × ((size ≡ (list_called present handed whole).length)
        × (left ≡ list_left schedule (Change file) after refusal work)))))

    pub ill : 1 < present → Left 101 handed list 0 0 work
    unfolding list_called listed_of numbers_after list_left
    ill l = rw (lt-ltb 1 present l) (refl, (refl, (refl, (refl, (refl, refl)))))

    pub well : present ≤ 1 → {told : Listed} → told ≡ listed_of entries whole → {marks : Marks} → marks ≡ whole.marks → {listed left : List ℕ} → listed ≡ numbers_after told.refusal entries list → left ≡ list_left schedule (Change file) after told.refusal work
        → Left told.refusal marks listed told.entries told.length left
    unfolding list_called listed_of
    well l e m p w =
        rw (le-ltb 1 present l) (ap (λ (t : Listed). t.refusal) e, (m, (p, (ap (λ (t : Listed). t.entries) e, (ap (λ (t : Listed). t.length) e, w)))))

  pub output-left : (out : List ℕ) → out ≡ output_after schedule 101 after out
  unfolding output_after
  output-left out = refl
