-- With room the calls over what is lent answer what the calls of the desks answer.
-- Assumes nothing.
use Prim.Native.Nat.{ℕ}
use mathlib.Core.Path.{◌≡◌, ap, ◌∙◌}
use mathlib.Core.List.{List}
use lib.ListN.{length}
use Rattle.parts.specs.Files.{File}
use Rattle.mark_numbers.specs.Marks.{Marks}
use Rattle.gate_marks.specs.Gate.{Gate}
use Rattle.gate_calls.specs.Lent.{lent_fault}
use Rattle.gate_calls.proofs.Lent.{lent-lists}
use Rattle.desks_calls.specs.declared.Whose.{Whose}
use Rattle.desks_calls.specs.Join.{join_fault, judged_by, judged_join}
use Rattle.desks_calls.specs.Desks.{Sight, sight_of, seen_by_a, seen_by_b, desk_fault, answered_by, desk_answer, bundle_changed, both_answered, desks_answer, output_by, desks_output}
use Rattle.desks_calls.specs.Lent.{judged_join_in, desk_in, desks_in, desks_output_in}
use Rattle.desks_calls.proofs.Laws.{first-none}

module _ (g : Gate) (desk shared : List ℕ) (lent : ℕ) (handed : Marks) (room : lent_fault g lent handed ≡ 0) where
  pub lent_join : judged_join_in g desk shared lent handed ≡ judged_join g desk shared
  unfolding judged_join_in judged_join
  lent_join =
      rw (lent-lists g lent handed room) (ap (λ n. judged_by g n desk shared) (first-none (lent_fault g lent handed) (join_fault g.files desk shared) room))

  pub lent-desk : (sight : Sight) → desk_in g desk shared sight lent handed ≡ desk_answer g desk shared sight handed
  unfolding desk_in desk_answer
  lent-desk sight = ap (λ n. answered_by g n desk shared sight handed) (first-none (lent_fault g lent handed) (desk_fault g.files desk shared sight) room)

module _ (g : Gate) (a b shared : List ℕ) (lent : ℕ) (handed_a handed_b : Marks) (room_a : lent_fault g lent handed_a ≡ 0) (room_b : lent_fault g lent handed_b ≡ 0) (whose : Whose) (k : ℕ) (f : File) where
  pub lent-desks : (room : ℕ) → desks_in g a b shared lent handed_a handed_b whose k f room ≡ desks_answer g a b shared handed_a handed_b whose k f room
  unfolding desks_in desks_answer
  lent-desks room =
      ap (λ x. both_answered g.files whose (bundle_changed whose a b shared) k f x (desk_in g b shared (sight_of (seen_by_b whose) k f room) lent handed_b)) (lent-desk g a shared lent handed_a room_a (sight_of (seen_by_a whose) k f room))
      ∙ ap (λ x. both_answered g.files whose (bundle_changed whose a b shared) k f (desk_answer g a shared (sight_of (seen_by_a whose) k f room) handed_a) x) (lent-desk g b shared lent handed_b room_b (sight_of (seen_by_b whose) k f room))

  pub lent-output : (out : List ℕ) → desks_output_in g a b shared lent handed_a handed_b whose k f out ≡ desks_output g a b shared handed_a handed_b whose k f out
  unfolding desks_output_in desks_output
  lent-output out = ap (λ x. output_by g.files x whose (bundle_changed whose a b shared) k f out) (lent-desks (length out))
