-- The steps of a change, as the code takes them, come to the drawer after it.
-- Assumes nothing.
use Prim.Native.Nat.{ℕ, ◌+◌, ◌^◌, ◌≤◌, ◌<◌}
use mathlib.Core.Path.{◌≡◌, refl, sym, ap, ◌∙◌}
use mathlib.Core.Bool.{Bool, true, false}
use mathlib.Core.Logic.{⊎_elim}
use mathlib.Core.List.{List, ◌++◌}
use native.Mathlib.Omega.{arith}
use borrow.Author.Tests.{eq-eqb, ne_eqb}
use lib.ListN.{length, set, drop, length-set}
use Rattle.parts.specs.Files.{File, is_present, bytes_of, new_file}
use Rattle.bundle_bytes.specs.Pieces.{written}
use Rattle.bundle_layout.specs.Bundle.{header_size, length_at}
use Rattle.drawer_moves.proofs.Sums.{list_length}
use Rattle.drawer_layout.specs.Places.{all_lengths, places_moved_down, are_moved, new_place}
use Rattle.drawer_moves.specs.Painted.{moved_in}
use Rattle.drawer_places.specs.declared.Choice.{Choice}
use Rattle.drawer_places.specs.Choice.{chosen}
use Rattle.drawer_held.specs.Drawer.{offsets_of, lengths_of, drawer_change_fault, lengths_freed, header_at, drawer_after, drawer_made}
use Rattle.drawer_held.proofs.Laws.{drawer-size}
use Rattle.drawer_change.proofs.Placing.{drawer-fine, number-fine, room-there, put, after_is, moved-is}

pub there-is : (present : Bool) (new : List ℕ) → present ≡ is_present (new_file present new)
unfolding is_present new_file
there-is true new = refl
there-is false new = refl

module _ (d : List ℕ) (k : ℕ) (f : File) (fine : drawer_change_fault 20 d k f ≡ 0) {offs lens piece : List ℕ} {present : Bool} {choice : Choice}
    (a : offs ≡ offsets_of 20 d) (b : lens ≡ lengths_of 20 d) (p : piece ≡ bytes_of f) (t : present ≡ is_present f) (ch : choice ≡ chosen 20 offs (set lens k 0) (length d) present (length piece)) where
  place_is : choice.place ≡ new_place 20 (offsets_of 20 d) (lengths_freed 20 d k) (length d) (is_present f) (length (bytes_of f))
  unfolding chosen lengths_freed
  place_is = ap (λ x. x.place) ch ∙ rw (a, b, p, t)

  moved_by : choice.moved ≡ are_moved 20 (offsets_of 20 d) (lengths_freed 20 d k) (length d) (is_present f) (length (bytes_of f))
  unfolding chosen lengths_freed
  moved_by = ap (λ x. x.moved) ch ∙ rw (a, b, p, t)

  pub number_small : k < 20
  number_small = number-fine 20 d k f fine

  pub drawer-long : 164 ≤ length d
  unfolding header_size
  drawer-long = (drawer-size 20 d (drawer-fine 20 d k f fine)).0

  pub freed-long : length (set lens k 0) ≡ 20
  unfolding lengths_of
  freed-long = length-set lens k 0 ∙ ap length b ∙ list_length (length_at d) 20

  pub place-small : choice.place < 2 ^ 32
  place-small = ⊎_elim (λ z. omega (arith, place_is, z.0)) (λ z. omega (arith, place_is, z.1, (drawer-size 20 d (drawer-fine 20 d k f fine)).1)) (put 20 d k f fine).own

  pub piece-small : length piece < 2 ^ 32
  piece-small = omega (arith, ap length p, room-there 20 d k f fine, (drawer-size 20 d (drawer-fine 20 d k f fine)).1)

  pub sum-small : 164 + all_lengths 20 (set lens k 0) < 2 ^ 32
  unfolding lengths_freed header_size
  sum-small = rw b (omega (arith, room-there 20 d k f fine, (drawer-size 20 d (drawer-fine 20 d k f fine)).1))

  pub change-moved : choice.moved ≡ true → {down moved last : List ℕ} → moved ≡ moved_in 20 d offs (set lens k 0) → down ≡ places_moved_down 20 offs (set lens k 0)
      → last ≡ header_at 20 (set down k choice.place) (set (set lens k 0) k (length piece)) ++ drop 164 (written moved choice.place piece) → last ≡ drawer_after 20 d k f
  unfolding lengths_freed header_size
  change-moved e m w l = after_is 20 d k f fine (l ∙ rw (sym moved_by ∙ e, m, w, place_is, p, a, b, moved-is 20 d k f fine))

  pub change-still : choice.moved ≡ false → {last : List ℕ} → last ≡ header_at 20 (set offs k choice.place) (set (set lens k 0) k (length piece)) ++ drop 164 (written d choice.place piece) → last ≡ drawer_after 20 d k f
  unfolding lengths_freed header_size
  change-still e l = after_is 20 d k f fine (l ∙ rw (sym moved_by ∙ e, place_is, p, a, b))

-- ---- a change made or refused
module _ (d : List ℕ) (k : ℕ) (f : File) {x : ℕ} (is : x ≡ drawer_change_fault 20 d k f) where
  pub made_so : {last : List ℕ} → x ≡ 0 → last ≡ drawer_after 20 d k f → last ≡ drawer_made 20 d k f
  unfolding drawer_made
  made_so z q = rw (eq-eqb (drawer_change_fault 20 d k f) 0 (sym is ∙ z)) q

  pub made-not : (x ≡ 0 → ⊥) → d ≡ drawer_made 20 d k f
  unfolding drawer_made
  made-not z = rw (ne_eqb (drawer_change_fault 20 d k f) 0 (λ q. z (is ∙ q)))
