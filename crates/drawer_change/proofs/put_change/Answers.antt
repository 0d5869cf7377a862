-- `drawer_change::put_change` meets its contract.
use Prim.Native.Nat.{ℕ}
use mathlib.Core.Path.{ap, ◌∙◌}
use native.Mathlib.Omega.{arith}
use lib.ListN.{length}
use mathlib.Core.Bool.{true, false}
use Rattle.drawer_layout.specs.Places.{list_of}
use Rattle.drawer_moves.proofs.Sums.{list_length}
use Rattle.drawer_held.specs.Drawer.{header_number}
use Rattle.drawer_held.proofs.Laws.{offsets-read, lengths_read}
use Rattle.drawer_change.proofs.Lists.{moved_length}
use Rattle.drawer_change.proofs.Placing.{number-fine}
use lib.ListN.{length-replicate}
use Rattle.drawer_change.proofs.Steps.{there-is, freed-long, number_small, drawer-long, place-small, piece-small, sum-small, change-moved, change-still}
use Rattle.drawer_change.proofs.put_change.Goals as goal

pub offset_bounds-lens-k : goal.offset_bounds-lens-k
offset_bounds-lens-k c = omega (arith, number-fine 20 _ _ _ c.requires)

pub bounds-lens-k : goal.bounds-lens-k
bounds-lens-k c = number-fine 20 _ _ _ c.requires

pub moved_places-requires : goal.moved_places-requires
moved_places-requires c = (sum-small _ _ _ c.requires (offsets-read 20 _ (c.read_numbers.ensures ∙ ap (list_of (header_number _ false)) (length-replicate {A = ℕ} 20 0))) (lengths_read 20 _ (c.read_numbers-2.ensures ∙ ap (list_of (header_number _ true)) (length-replicate {A = ℕ} 20 0))) c.new_part-piece.ensures (there-is c.args.present c.args.new.now) c.choose_place-choice.ensures, length-replicate {A = ℕ} 20 0)

pub put_file-requires : goal.put_file-requires
put_file-requires c = (omega (arith, drawer-long _ _ _ c.requires (offsets-read 20 _ (c.read_numbers.ensures ∙ ap (list_of (header_number _ false)) (length-replicate {A = ℕ} 20 0))) (lengths_read 20 _ (c.read_numbers-2.ensures ∙ ap (list_of (header_number _ true)) (length-replicate {A = ℕ} 20 0))) c.new_part-piece.ensures (there-is c.args.present c.args.new.now) c.choose_place-choice.ensures, c.move_down.auto.d), ap length c.moved_places.ensures ∙ moved_length 20 _ _, freed-long _ _ _ c.requires (offsets-read 20 _ (c.read_numbers.ensures ∙ ap (list_of (header_number _ false)) (length-replicate {A = ℕ} 20 0))) (lengths_read 20 _ (c.read_numbers-2.ensures ∙ ap (list_of (header_number _ true)) (length-replicate {A = ℕ} 20 0))) c.new_part-piece.ensures (there-is c.args.present c.args.new.now) c.choose_place-choice.ensures, number_small _ _ _ c.requires (offsets-read 20 _ (c.read_numbers.ensures ∙ ap (list_of (header_number _ false)) (length-replicate {A = ℕ} 20 0))) (lengths_read 20 _ (c.read_numbers-2.ensures ∙ ap (list_of (header_number _ true)) (length-replicate {A = ℕ} 20 0))) c.new_part-piece.ensures (there-is c.args.present c.args.new.now) c.choose_place-choice.ensures, place-small _ _ _ c.requires (offsets-read 20 _ (c.read_numbers.ensures ∙ ap (list_of (header_number _ false)) (length-replicate {A = ℕ} 20 0))) (lengths_read 20 _ (c.read_numbers-2.ensures ∙ ap (list_of (header_number _ true)) (length-replicate {A = ℕ} 20 0))) c.new_part-piece.ensures (there-is c.args.present c.args.new.now) c.choose_place-choice.ensures, piece-small _ _ _ c.requires (offsets-read 20 _ (c.read_numbers.ensures ∙ ap (list_of (header_number _ false)) (length-replicate {A = ℕ} 20 0))) (lengths_read 20 _ (c.read_numbers-2.ensures ∙ ap (list_of (header_number _ true)) (length-replicate {A = ℕ} 20 0))) c.new_part-piece.ensures (there-is c.args.present c.args.new.now) c.choose_place-choice.ensures)

pub put_file-requires-else-choice : goal.put_file-requires-else-choice
put_file-requires-else-choice c = (drawer-long _ _ _ c.requires (offsets-read 20 _ (c.read_numbers.ensures ∙ ap (list_of (header_number _ false)) (length-replicate {A = ℕ} 20 0))) (lengths_read 20 _ (c.read_numbers-2.ensures ∙ ap (list_of (header_number _ true)) (length-replicate {A = ℕ} 20 0))) c.new_part-piece.ensures (there-is c.args.present c.args.new.now) c.choose_place-choice.ensures, ap length (c.read_numbers.ensures ∙ ap (list_of (header_number _ false)) (length-replicate {A = ℕ} 20 0)) ∙ list_length _ 20, freed-long _ _ _ c.requires (offsets-read 20 _ (c.read_numbers.ensures ∙ ap (list_of (header_number _ false)) (length-replicate {A = ℕ} 20 0))) (lengths_read 20 _ (c.read_numbers-2.ensures ∙ ap (list_of (header_number _ true)) (length-replicate {A = ℕ} 20 0))) c.new_part-piece.ensures (there-is c.args.present c.args.new.now) c.choose_place-choice.ensures, number_small _ _ _ c.requires (offsets-read 20 _ (c.read_numbers.ensures ∙ ap (list_of (header_number _ false)) (length-replicate {A = ℕ} 20 0))) (lengths_read 20 _ (c.read_numbers-2.ensures ∙ ap (list_of (header_number _ true)) (length-replicate {A = ℕ} 20 0))) c.new_part-piece.ensures (there-is c.args.present c.args.new.now) c.choose_place-choice.ensures, place-small _ _ _ c.requires (offsets-read 20 _ (c.read_numbers.ensures ∙ ap (list_of (header_number _ false)) (length-replicate {A = ℕ} 20 0))) (lengths_read 20 _ (c.read_numbers-2.ensures ∙ ap (list_of (header_number _ true)) (length-replicate {A = ℕ} 20 0))) c.new_part-piece.ensures (there-is c.args.present c.args.new.now) c.choose_place-choice.ensures, piece-small _ _ _ c.requires (offsets-read 20 _ (c.read_numbers.ensures ∙ ap (list_of (header_number _ false)) (length-replicate {A = ℕ} 20 0))) (lengths_read 20 _ (c.read_numbers-2.ensures ∙ ap (list_of (header_number _ true)) (length-replicate {A = ℕ} 20 0))) c.new_part-piece.ensures (there-is c.args.present c.args.new.now) c.choose_place-choice.ensures)

pub returns-then-choice : goal.returns-then-choice
returns-then-choice c = change-moved _ _ _ c.requires (offsets-read 20 _ (c.read_numbers.ensures ∙ ap (list_of (header_number _ false)) (length-replicate {A = ℕ} 20 0))) (lengths_read 20 _ (c.read_numbers-2.ensures ∙ ap (list_of (header_number _ true)) (length-replicate {A = ℕ} 20 0))) c.new_part-piece.ensures (there-is c.args.present c.args.new.now) c.choose_place-choice.ensures c.if-choice.true c.move_down.ensures c.moved_places.ensures c.put_file.ensures

pub returns-else-choice : goal.returns-else-choice
returns-else-choice c = change-still _ _ _ c.requires (offsets-read 20 _ (c.read_numbers.ensures ∙ ap (list_of (header_number _ false)) (length-replicate {A = ℕ} 20 0))) (lengths_read 20 _ (c.read_numbers-2.ensures ∙ ap (list_of (header_number _ true)) (length-replicate {A = ℕ} 20 0))) c.new_part-piece.ensures (there-is c.args.present c.args.new.now) c.choose_place-choice.ensures c.if-choice.false c.put_file-else-choice.ensures
