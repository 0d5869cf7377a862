-- Files that stand apart have room: their lengths and the header are no longer than the drawer. Counted byte by byte: no byte is
-- in two files.
-- Assumes nothing.
use Prim.Native.Nat.{ℕ, zero, suc, ◌+◌, ◌-◌, ◌≤◌, ◌<◌}
use mathlib.Core.Path.{◌≡◌, refl, ap}
use mathlib.Core.Logic.{◌⊎◌, inl, inr, ⊎_elim}
use mathlib.Core.List.{List}
use native.Mathlib.Omega.{arith}
use lib.ListN.{length, get_or}
use Rattle.bundle_bytes.specs.Pieces.{piece_start}
use Rattle.bundle_layout.specs.Bundle.{header_size, file_at, pieces_of, bundle_length}
use Rattle.drawer_layout.specs.Places.{total, all_lengths}
use Rattle.drawer_layout.proofs.Laws.{Laid, last-or-before, under-or-not}
use Rattle.drawer_moves.proofs.Sums.{total-same, total-step, total-none}
use Rattle.drawer_held.specs.Drawer.{offsets_of, lengths_of, drawer_fault}
use Rattle.drawer_held.proofs.Laws.{drawer-size, drawer-laid, length-is, held-length}

module _ (n : ℕ) (offs lens : List ℕ) (room : ℕ) (ok : Laid n offs lens room) where
  -- how many bytes of file j stand below c
  abbrev below : ℕ → ℕ → ℕ
  below c j = c - get_or offs j 0 - (c - (get_or offs j 0 + get_or lens j 0))

  -- byte c is file j's
  abbrev Has : ℕ → ℕ → Type 0
  Has c j = (get_or offs j 0 ≤ c) × (c < get_or offs j 0 + get_or lens j 0)

  has-or-not : (c j : ℕ) → Has c j ⊎ (Has c j → ⊥)
  has-or-not c j =
      ⊎_elim (λ l. inr (λ h. omega (arith, h.0, l)))
      (λ a. ⊎_elim (λ l. inl (a, l)) (λ b. inr (λ h. omega (arith, h.1, b))) (under-or-not c (get_or offs j 0 + get_or lens j 0)))
      (under-or-not c (get_or offs j 0))

  found : (c m : ℕ) → ((j : ℕ) × (j < m) × Has c j) ⊎ ((j : ℕ) → j < m → Has c j → ⊥)
  found c zero = inr (λ j l. absurd (omega arith))
  found c (suc m) =
      ⊎_elim (λ h. inl (m, omega arith, h))
      (λ not-m. ⊎_elim (λ h. inl (h.0, omega (arith, h.1), h.2)) (λ none. inr (λ j l. ⊎_elim (λ e. rw e not-m) (λ q. none j q) (last-or-before j m l))) (found c m)) (has-or-not c m)

  -- one byte further there is at most one byte more
  same-below : (c j : ℕ) → (Has c j → ⊥) → below (suc c) j ≡ below c j
  same-below c j gone =
      ⊎_elim (λ l. omega arith) (λ a. ⊎_elim (λ l. absurd (gone (a, l))) (λ b. omega arith) (under-or-not c (get_or offs j 0 + get_or lens j 0))) (under-or-not c (get_or offs j 0))

  only_one : (c i j : ℕ) → i < n → j < n → Has c i → (j ≡ i → ⊥) → Has c j → ⊥
  only_one c i j l m a d b =
      ⊎_elim (λ z. omega (arith, z, a.0, a.1, b.0, b.1)) (λ z. omega (arith, z, a.0, a.1, b.0, b.1)) (ok.apart j i m l d (omega (arith, b.0, b.1)) (omega (arith, a.0, a.1)))

  next-byte : (c : ℕ) → total (below (suc c)) n ≤ total (below c) n + 1
  next-byte c =
      ⊎_elim
      (λ h. omega (arith, total-step (below c) (below (suc c)) n h.0 1 h.1 (omega (arith, h.2.0, h.2.1)) (λ j l d. same-below c j (only_one c h.0 j h.1 l h.2 d))))
      (λ none. omega (arith, total-same (below (suc c)) (below c) n (λ j l. same-below c j (none j l)))) (found c n)

  below-so : (c : ℕ) → total (below (header_size n + c)) n ≤ c
  below-so zero = omega (arith, total-none (below (header_size n + 0)) n (λ j l. ⊎_elim (λ z. omega (arith, z.0, z.1)) (λ z. omega (arith, z.0)) (ok.stands j l)))
  below-so (suc c) =
      let e : header_size n + suc c ≡ suc (header_size n + c) = omega arith in
      rw e (omega (arith, below-so c, next-byte (header_size n + c)))

  pub lengths-fit : header_size n ≤ room → header_size n + all_lengths n lens ≤ room
  unfolding all_lengths
  lengths-fit h =
      let e : header_size n + (room - header_size n) ≡ room = omega arith in
      let all : total (below room) n ≡ total (λ j. get_or lens j 0) n = total-same (below room) (λ j. get_or lens j 0) n (λ j l. ⊎_elim (λ z. omega (arith, z.0, z.1)) (λ z. omega (arith, z.1)) (ok.stands j l)) in
      omega (arith, all, rw e at (below-so (room - header_size n)))

-- ---- the bundle of a drawer's files
module _ (n : ℕ) (d : List ℕ) (fine : drawer_fault n d ≡ 0) where
  starts : (m : ℕ) → m ≤ n → piece_start (pieces_of (file_at d)) m ≡ total (λ j. get_or (lengths_of n d) j 0) m
  unfolding piece_start total pieces_of
  starts zero l = refl
  starts (suc m) l = rw (starts m (omega arith), length-is n d fine m (omega arith), held-length n d fine m (omega arith))

  pub bundle-sum : bundle_length n (file_at d) ≡ header_size n + all_lengths n (lengths_of n d)
  unfolding bundle_length all_lengths
  bundle-sum = ap (λ r. header_size n + r) (starts n (omega arith))

  pub bundle-fits : bundle_length n (file_at d) ≤ length d
  bundle-fits =
      omega (arith, bundle-sum, lengths-fit n (offsets_of n d) (lengths_of n d) (length d) (drawer-laid n d fine) (drawer-size n d fine).0)

  pub bundle-small : bundle_length n (file_at d) ≤ 1048576
  bundle-small = omega (arith, bundle-fits, (drawer-size n d fine).1)
