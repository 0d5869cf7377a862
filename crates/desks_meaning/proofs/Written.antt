-- What the call of the desks writes. Quotations are of document 02, order 10, and of document 01, "The bundle".
-- Assumes nothing.
use Prim.Native.Nat.{ℕ}
use mathlib.Core.Path.{◌≡◌, refl, sym}
use mathlib.Core.Bool.{Bool, true, false, ◌||◌, true≢false}
use mathlib.Core.List.{List, ◌++◌}
use borrow.Author.Tests.{ne_eqb, eqb-false}
use lib.ListN.{length, take, drop}
use lib.Seq.{take_at}
use lib.Dec.{eqb}
use Rattle.parts.specs.Files.{File}
use Rattle.mark_numbers.specs.Marks.{Marks}
use Rattle.bundle_layout.specs.Bundle.{bundle_fault, bundle_of}
use Rattle.bundle_layout.specs.Change.{files_after, output_of}
use Rattle.bundle_layout.proofs.Laws.{bundle-length, make-none}
use Rattle.bundle_layout.proofs.RoundTrip.{after-change}
use Rattle.gate_marks.specs.Gate.{Gate}
use Rattle.desks_calls.specs.declared.Whose.{Whose}
use Rattle.desks_calls.specs.declared.Whose.TheVariants.{Calendars}
use Rattle.desks_calls.specs.Desks.{answered_by, desk_answer, bundle_changed, is_written, DesksAnswer, both_answered, desks_answer, output_by, desks_output}
use Rattle.desks_calls.proofs.Whole.{written-made}

-- "A calendar change .. is written unless both are refused"
module _ (of_a of_b : ℕ) where
  pub both-refused : is_written Calendars of_a of_b ≡ false → (of_a ≡ 0 → ⊥) × (of_b ≡ 0 → ⊥)
  unfolding is_written
  both-refused e = go (eqb of_a 0) refl (eqb of_b 0) refl e
    where
      go : (t : Bool) → eqb of_a 0 ≡ t → (u : Bool) → eqb of_b 0 ≡ u → (t || u) ≡ false → (of_a ≡ 0 → ⊥) × (of_b ≡ 0 → ⊥)
      go true p u q h = absurd (true≢false h)
      go false p true q h = absurd (true≢false h)
      go false p false q h = (eqb-false of_a 0 p, eqb-false of_b 0 q)

  pub not-both : (of_a ≡ 0 → ⊥) → (of_b ≡ 0 → ⊥) → is_written Calendars of_a of_b ≡ false
  unfolding is_written
  not-both p q = rw (ne_eqb of_a 0 p, ne_eqb of_b 0 q)

module _ (g : Gate) (a b shared : List ℕ) (handed_a handed_b : Marks) (whose : Whose) (k : ℕ) (f : File) (out : List ℕ) where
  abbrev answer : DesksAnswer
  answer = desks_answer g a b shared handed_a handed_b whose k f (length out)

  abbrev new : List ℕ
  new = bundle_of g.files (files_after (bundle_changed whose a b shared) k f)

  -- "Outputs are then untouched."
  pub untouched : is_written whose answer.a.refusal answer.b.refusal ≡ false → (desks_output g a b shared handed_a handed_b whose k f out ≡ out) × (answer.size ≡ 0)
  unfolding desks_output output_by desks_answer both_answered
  untouched e = (rw e, rw e)

  module _ (written : is_written whose answer.a.refusal answer.b.refusal ≡ true) where
    -- "After success the output starts with the new bundle and the rest of it is as before."
    pub starts_with : desks_output g a b shared handed_a handed_b whose k f out ≡ new ++ drop (length new) out
    unfolding desks_output output_by output_of
    starts_with = rw (written, bundle-length g.files (files_after (bundle_changed whose a b shared) k f))

    pub size_is : answer.size ≡ length new
    unfolding desks_answer both_answered
    size_is = rw written (sym (bundle-length g.files (files_after (bundle_changed whose a b shared) k f)))

    pub front : take answer.size (desks_output g a b shared handed_a handed_b whose k f out) ≡ new
    front = rw (size_is, starts_with) (take_at new (drop (length new) out) (length new) refl)

    -- a bundle that is not refused
    pub new-fine : bundle_fault g.files new ≡ 0
    unfolding desks_answer both_answered desk_answer answered_by
    new-fine =
        (after-change g.files (bundle_changed whose a b shared) k f (make-none g.files (bundle_changed whose a b shared) k f (length out) (written-made g.files a b shared k f (length out) whose (λ e. e) (λ e. e) written)).0).0
