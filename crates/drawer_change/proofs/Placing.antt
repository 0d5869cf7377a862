-- What a change that is not refused comes to: where the files then stand, and the bytes with each of them at its place.
-- Assumes nothing.
use Prim.Native.Nat.{ℕ, ◌+◌, ◌≤◌, ◌<◌}
use mathlib.Core.Path.{◌≡◌, refl, sym, ap, ◌∙◌}
use mathlib.Core.Bool.{Bool, true, false, cond}
use mathlib.Core.Logic.{◌⊎◌, inl, inr, ⊎_elim}
use mathlib.Core.List.{List, [], ◌++◌}
use native.Mathlib.Omega.{arith}
use borrow.Author.Tests.{eq-eqb, ne_eqb}
use lib.ListN.{length, get_or, set, take, drop, length-set}
use lib.Seq.{get_or-set_same}
use Rattle.json_bytes.proofs.Laws.{by-test}
use Rattle.parts.specs.Files.{File, Left, Given, is_present, bytes_of}
use Rattle.bundle_bytes.specs.Pieces.{written}
use Rattle.bundle_layout.specs.Bundle.{header_size, offset_at, length_at, pieces_of}
use Rattle.bundle_layout.specs.Change.{files_after}
use Rattle.drawer_layout.specs.Places.{lowest_gap, all_lengths, places_moved_down, are_moved, new_place, placed}
use Rattle.drawer_layout.proofs.Laws.{Laid, laid_so, under-or-not}
use Rattle.drawer_moves.specs.Painted.{painted, part_in, files_moved, moved_in}
use Rattle.drawer_moves.proofs.Sums.{list_length}
use Rattle.drawer_moves.proofs.Moves.{full-inside, place-full, empty-part, full-length}
use Rattle.drawer_moves.proofs.Painting.{painted-put}
use Rattle.drawer_held.specs.Drawer.{offsets_of, lengths_of, drawer_fault, drawer_change_fault, lengths_freed, lengths_after, places_after, header_at, drawer_after}
use Rattle.drawer_held.proofs.Laws.{change-none, drawer-size, drawer-laid, held_bytes, freed-same, freed-other, new-piece, other-piece, length-changed}
use Rattle.drawer_change.proofs.Lists.{same_or_not, gap-free, gap-clear, laid-anew, place_other, before-all, moved-laid, moved_length, painted-own}

module _ (n : ℕ) (d : List ℕ) (k : ℕ) (f : File) (fine : drawer_change_fault n d k f ≡ 0) where
  abbrev offs : List ℕ
  offs = offsets_of n d

  abbrev freed : List ℕ
  freed = lengths_freed n d k

  abbrev size : ℕ
  size = length (bytes_of f)

  abbrev pub moved : Bool
  moved = are_moved n offs freed (length d) (is_present f) size

  abbrev place : ℕ
  place = new_place n offs freed (length d) (is_present f) size

  -- where the other files stand then
  abbrev pub base : List ℕ
  base = cond moved (places_moved_down n offs freed) offs

  pub drawer-fine : drawer_fault n d ≡ 0
  drawer-fine = (change-none n d k f fine).0

  pub number-fine : k < n
  number-fine = (change-none n d k f fine).1

  pub room-there : header_size n + all_lengths n freed + size ≤ length d
  room-there = rw (length-changed n d drawer-fine k number-fine f) at (change-none n d k f fine).2

  offs-length : length offs ≡ n
  unfolding offsets_of
  offs-length = list_length (offset_at d) n

  pub freed-length : length freed ≡ n
  unfolding lengths_freed lengths_of
  freed-length = length-set (lengths_of n d) k 0 ∙ list_length (length_at d) n

  -- without the changed file
  pub freed-laid : Laid n offs freed (length d)
  freed-laid =
      let old = drawer-laid n d drawer-fine in
      record {
        stands = λ i l. ⊎_elim
            (λ q. rw q (rw (freed-same n d drawer-fine k number-fine) (⊎_elim (λ z. inl (z.0, refl)) (λ z. inr (z.0, omega (arith, z.1))) (old.stands k number-fine))))
            (λ q. rw (freed-other n d drawer-fine k number-fine i q) (old.stands i l)) (same_or_not i k);
        apart = λ i j l h e a b. ⊎_elim (λ q. absurd (none i q a)) (λ q. ⊎_elim (λ s. absurd (none j s b)) (λ s.
            rw (freed-other n d drawer-fine k number-fine i q, freed-other n d drawer-fine k number-fine j s)
            (old.apart i j l h e (rw (freed-other n d drawer-fine k number-fine i q) at a) (rw (freed-other n d drawer-fine k number-fine j s) at b))) (same_or_not j k)) (same_or_not i k);
      }
    where
      none : (i : ℕ) → i ≡ k → 0 < get_or freed i 0 → ⊥
      none i q a = let z : get_or freed i 0 ≡ 0 = rw q (freed-same n d drawer-fine k number-fine) in omega arith

  pub base-laid : Laid n base freed (length d)
  base-laid = by-test (λ b. Laid n b freed (length d)) moved (places_moved_down n offs freed) offs (λ e. moved-laid n offs freed (length d) freed-laid (omega (arith, room-there))) (λ e. freed-laid)

  base-length : length base ≡ n
  base-length = by-test (λ b. length b ≡ n) moved (places_moved_down n offs freed) offs (λ e. moved_length n offs freed) (λ e. offs-length)

  -- a file that is moved ends before the new bytes
  ends-before : (i : ℕ) → i < n → 0 < get_or freed i 0 → get_or (places_moved_down n offs freed) i 0 + get_or freed i 0 ≤ header_size n + all_lengths n freed
  ends-before i l a = rw (place-full n offs freed (length d) freed-laid i l a) (omega (arith, before-all n offs freed i l))

  -- the new place stands inside, and clear of the others
  pub record Put (present moves : Bool) (size place : ℕ) : Type 0 where
    pub own : ((place ≡ 0) × (size ≡ 0)) ⊎ ((header_size n ≤ place) × (place + size ≤ length d))
    pub there : present ≡ true → header_size n ≤ place
    pub gone : present ≡ false → place ≡ 0
    pub low : size ≡ 0 → place ≤ header_size n
    pub clear : 0 < size → (i : ℕ) → i < n → 0 < get_or freed i 0 → (get_or (cond moves (places_moved_down n offs freed) offs) i 0 + get_or freed i 0 ≤ place) ⊎ (place + size ≤ get_or (cond moves (places_moved_down n offs freed) offs) i 0)

  pub put : Put (is_present f) moved size place
  unfolding are_moved new_place is_present bytes_of
  put = go f refl
    where
      fits : header_size n + all_lengths n freed + size ≤ length d
      fits = room-there

      go : (g : File) → f ≡ g → Put (is_present g) (are_moved n offs freed (length d) (is_present g) (length (bytes_of g))) (length (bytes_of g)) (new_place n offs freed (length d) (is_present g) (length (bytes_of g)))
      go Left e =
          record { own = inl (refl, refl); there = λ q. absurd (let y : ◌≡◌ {A = ℕ} 0 1 = cc in omega arith); gone = λ q. refl; low = λ q. omega arith; clear = λ h. absurd (omega arith) }
      go (Given bytes) e = ⊎_elim empty full (same_or_not (length bytes) 0)
        where
          here : size ≡ length bytes
          here = ap (λ g. length (bytes_of g)) e

          empty : length bytes ≡ 0 → Put true (are_moved n offs freed (length d) true (length bytes)) (length bytes) (new_place n offs freed (length d) true (length bytes))
          empty z = rw z (record { own = inr (omega arith, omega (arith, fits)); there = λ q. omega arith; gone = λ q. absurd (let y : ◌≡◌ {A = ℕ} 0 1 = cc in omega arith); low = λ q. omega arith; clear = λ h. absurd (omega arith) })

          full : (length bytes ≡ 0 → ⊥) → Put true (are_moved n offs freed (length d) true (length bytes)) (length bytes) (new_place n offs freed (length d) true (length bytes))
          full z = rw (ne_eqb (length bytes) 0 z) (⊎_elim
              (λ q. rw (eq-eqb (lowest_gap n offs freed (length d) (length bytes)) 0 q)
              (record {
                own = inr (omega arith, omega (arith, fits, here));
                there = λ r. omega arith;
                gone = λ r. absurd (let y : ◌≡◌ {A = ℕ} 0 1 = cc in omega arith);
                low = λ r. absurd (z r);
                clear = λ h i l a. inl (ends-before i l a);
              }))
              (λ q. let g = gap-free n offs freed (length bytes) (length d) q in
              rw (ne_eqb (lowest_gap n offs freed (length d) (length bytes)) 0 q)
              (record {
                own = inr (g.1, g.2);
                there = λ r. g.1;
                gone = λ r. absurd (let y : ◌≡◌ {A = ℕ} 0 1 = cc in omega arith);
                low = λ r. absurd (z r);
                clear = λ h i l a. gap-clear n offs freed (length bytes) (length d) q h i l a;
              })) (same_or_not (lowest_gap n offs freed (length d) (length bytes)) 0))

  -- "the layout is kept": over the lists
  pub places-laid : Laid n (places_after n d k f) (lengths_after n d k f) (length d)
  unfolding places_after placed lengths_after
  places-laid = laid-anew n base freed (length d) k place size base-length freed-length number-fine base-laid put.own (λ h i l q a. put.clear h i l a)

  -- the bytes of the other files
  pub old-part : (i : ℕ) → i < n → (i ≡ k → ⊥) → part_in d offs freed i ≡ pieces_of (files_after d k f) i
  unfolding part_in
  old-part i l q = sym (other-piece n d drawer-fine k number-fine f i q ∙ held_bytes n d drawer-fine i l ∙ ap (λ r. take r (drop (get_or offs i 0) d)) (sym (freed-other n d drawer-fine k number-fine i q)))

  no_part : part_in d offs freed k ≡ []
  no_part = empty-part n d offs freed freed-laid k (freed-same n d drawer-fine k number-fine)

  part-long : (i : ℕ) → i < n → (part_in d offs freed i ≡ []) ⊎ ((0 < get_or freed i 0) × (length (part_in d offs freed i) ≡ get_or freed i 0))
  part-long i l = ⊎_elim (λ h. inr (h, full-length n d offs freed freed-laid i l h)) (λ h. inl (empty-part n d offs freed freed-laid i (omega arith))) (under-or-not 0 (get_or freed i 0))

  -- the bytes before the new ones are put there
  pub moved-bytes : painted (part_in d offs freed) base n d ≡ cond moved (files_moved n d offs freed) d
  unfolding files_moved
  moved-bytes = go moved
    where
      go : (t : Bool) → painted (part_in d offs freed) (cond t (places_moved_down n offs freed) offs) n d ≡ cond t (painted (part_in d offs freed) (places_moved_down n offs freed) n d) d
      go true = refl
      go false = painted-own n d offs freed freed-laid n (omega arith)

  pub new-there : get_or (places_after n d k f) k 0 ≡ place
  unfolding places_after placed
  new-there = get_or-set_same base k place 0 (omega (arith, base-length, number-fine))

  pub others : (i : ℕ) → (i ≡ k → ⊥) → get_or (places_after n d k f) i 0 ≡ get_or base i 0
  unfolding places_after placed
  others i q = place_other n base freed (length d) k place size base-length freed-length number-fine i q

  pub painted-after : painted (pieces_of (files_after d k f)) (places_after n d k f) n d ≡ written (cond moved (files_moved n d offs freed) d) place (bytes_of f)
  painted-after =
      let piece = new-piece n d drawer-fine k number-fine f in
      painted-put (part_in d offs freed) (pieces_of (files_after d k f)) base (places_after n d k f) d k no_part
      (omega (arith, new-there, ap length piece, inside)) n number-fine
      (λ i l q. (old-part i l q, sym (others i q)))
      (λ i l q. ⊎_elim (λ e. inl e) (λ (e : (0 < get_or freed i 0) × (length (part_in d offs freed i) ≡ get_or freed i 0)). inr (omega (arith, e.1, (full-inside n base freed (length d) base-laid i l e.0).1), rw (new-there, ap length piece, e.1) (apart i l e.0))) (part-long i l))
      ∙ rw (moved-bytes, new-there, piece)
    where
      inside : place + size ≤ length d
      inside = ⊎_elim (λ z. omega (arith, z.0, z.1, (drawer-size n d drawer-fine).0)) (λ z. z.1) put.own

      apart : (i : ℕ) → i < n → 0 < get_or freed i 0 → (get_or base i 0 + get_or freed i 0 ≤ place) ⊎ (place + size ≤ get_or base i 0)
      apart i l h = ⊎_elim (λ z. put.clear z i l h) (λ z. inr (omega (arith, put.low (omega arith), (full-inside n base freed (length d) base-laid i l h).0))) (under-or-not 0 size)

  pub after_is : {last : List ℕ} → last ≡ header_at n (set base k place) (set freed k size) ++ drop (header_size n) (written (cond moved (files_moved n d offs freed) d) place (bytes_of f)) → last ≡ drawer_after n d k f
  unfolding drawer_after places_after placed lengths_after
  after_is q = q ∙ rw (sym painted-after)

  pub moved-is : moved_in n d offs freed ≡ files_moved n d offs freed
  unfolding moved_in
  moved-is = rw (laid_so n offs freed (length d) freed-laid)
