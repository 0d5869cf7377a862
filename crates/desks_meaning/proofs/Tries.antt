-- A try of the desks: "A try answers with the board, or the refusal, that making the change into an output long enough would
-- give" (document 01, "The bundle").
-- Assumes nothing.
use Prim.Native.Nat.{ℕ, ◌≤◌}
use mathlib.Core.Path.{◌≡◌, refl, sym}
use mathlib.Core.Bool.{Bool, true, false, cond}
use mathlib.Core.List.{List}
use borrow.Author.Tests.{le-ltb, eqb-true}
use lib.Dec.{ltb, eqb}
use Rattle.parts.specs.Files.{File}
use Rattle.mark_numbers.specs.Marks.{Marks}
use Rattle.bundle_layout.specs.Bundle.{bundle_length}
use Rattle.bundle_layout.specs.Change.{files_after, try_fault, make_fault}
use Rattle.bundle_layout.proofs.Laws.{try-none, try-make}
use Rattle.gate_marks.specs.Gate.{Gate}
use Rattle.desks_calls.specs.declared.Whose.{Whose}
use Rattle.desks_calls.specs.declared.Whose.TheVariants.{DeskA, DeskB, Calendars}
use Rattle.desks_calls.specs.Join.{change_fault}
use Rattle.desks_calls.specs.Desks.{OwnChange, CalendarChange, sight_of, seen_by_a, seen_by_b, sight_fault, desk_fault, join_after, marks_seen, answered_by, desk_answer, bundle_changed, desks_answer, long_enough}

module _ (n : ℕ) (s : List ℕ) (k : ℕ) (f : File) where
  -- no bundle is too long for it
  made-long : make_fault n s k f long_enough ≡ try_fault n s k f
  unfolding make_fault
  made-long = go (eqb (try_fault n s k f) 0) refl
    where
      go : (t : Bool) → eqb (try_fault n s k f) 0 ≡ t → cond t (cond (ltb long_enough (bundle_length n (files_after s k f))) 5 0) (try_fault n s k f) ≡ try_fault n s k f
      go true e =
          let z : try_fault n s k f ≡ 0 = eqb-true (try_fault n s k f) 0 e in
          rw (le-ltb long_enough (bundle_length n (files_after s k f)) (try-none n s k f z).2) (sym z)
      go false e = refl

  pub change-long : (calendars : Bool) (room : ℕ) → bundle_length n (files_after s k f) ≤ room → change_fault n calendars s k f room ≡ change_fault n calendars s k f long_enough
  unfolding change_fault
  change-long calendars room l = rw (try-make n s k f room l, made-long)

module _ (g : Gate) (desk shared : List ℕ) (k : ℕ) (f : File) (room : ℕ) (handed : Marks) where
  own-long : bundle_length g.files (files_after desk k f) ≤ room → desk_answer g desk shared (OwnChange k f room) handed ≡ desk_answer g desk shared (OwnChange k f long_enough) handed
  unfolding desk_answer answered_by desk_fault sight_fault marks_seen join_after
  own-long l = rw (change-long g.files desk k f false room l)

  calendar-long : bundle_length g.files (files_after shared k f) ≤ room → desk_answer g desk shared (CalendarChange k f room) handed ≡ desk_answer g desk shared (CalendarChange k f long_enough) handed
  unfolding desk_answer answered_by desk_fault sight_fault marks_seen join_after
  calendar-long l = rw (change-long g.files shared k f true room l)

pub try-is-make : (g : Gate) (a b shared : List ℕ) (handed_a handed_b : Marks) (whose : Whose) (k : ℕ) (f : File) (room : ℕ) → bundle_length g.files (files_after (bundle_changed whose a b shared) k f) ≤ room
    → desks_answer g a b shared handed_a handed_b whose k f room ≡ desks_answer g a b shared handed_a handed_b whose k f long_enough
unfolding desks_answer sight_of seen_by_a seen_by_b bundle_changed
try-is-make g a b shared handed_a handed_b DeskA k f room l = rw (own-long g a shared k f room handed_a l)
try-is-make g a b shared handed_a handed_b DeskB k f room l = rw (own-long g b shared k f room handed_b l)
try-is-make g a b shared handed_a handed_b Calendars k f room l =
    rw (calendar-long g a shared k f room handed_a l, calendar-long g b shared k f room handed_b l)
