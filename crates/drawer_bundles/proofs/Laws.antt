-- What the code comes to when a bundle is put into a drawer or taken out.
-- Assumes nothing.
use Prim.Native.Nat.{ℕ, ◌+◌, ◌≤◌, ◌<◌}
use mathlib.Core.Path.{◌≡◌, refl, sym, ◌∙◌}
use mathlib.Core.Bool.{Bool, true, false, cond, ◌||◌, or-true}
use mathlib.Core.Logic.{⊎_elim}
use mathlib.Core.List.{List, []}
use native.Mathlib.Omega.{arith}
use borrow.Author.Tests.{lt-ltb, le-ltb, ne_eqb, eqb-false}
use lib.ListN.{length}
use lib.Dec.{ltb, eqb}
use Rattle.bundle_bytes.specs.Pieces.{written}
use Rattle.bundle_bytes.proofs.Laws.{written_behind}
use Rattle.bundle_layout.specs.Bundle.{header_size, bundle_fault, file_at, bundle_length}
use Rattle.bundle_layout.specs.Change.{output_of}
use Rattle.bundle.specs.Answers.{change_of}
use Rattle.drawer_layout.specs.Places.{all_lengths}
use Rattle.drawer_layout.proofs.Laws.{under-or-not}
use Rattle.drawer_held.specs.Drawer.{lengths_of, drawer_fault}
use Rattle.drawer_bundles.specs.Bundles.{put_fault, bundle_put, take_fault, taken_bundle, taken_out}
use Rattle.drawer_bundles.proofs.Room.{bundle-sum}

-- ---- put in
module _ (d s : List ℕ) {x : ℕ} (is : x ≡ bundle_fault 20 s) where
  pub put_refused : (x ≡ 0 → ⊥) → x ≡ put_fault 20 d s
  unfolding put_fault
  put_refused n = rw (← is, ne_eqb x 0 n)

  module _ (z : x ≡ 0) where
    pub put-short : length d < 164 → 1 ≡ put_fault 20 d s
    unfolding put_fault header_size
    put-short l = rw (← is, z, lt-ltb (length d) 164 l)

    pub put-long : 1048576 < length d → 1 ≡ put_fault 20 d s
    unfolding put_fault header_size
    put-long l = rw (← is, z, lt-ltb 1048576 (length d) l, or-true (ltb (length d) 164))

    module _ (a : 164 ≤ length d) (b : length d ≤ 1048576) where
      pub put_full : length d < length s → 11 ≡ put_fault 20 d s
      unfolding put_fault header_size
      put_full l = rw (← is, z, le-ltb (length d) 164 a, le-ltb 1048576 (length d) b, lt-ltb (length d) (length s) l)

      pub put-fine : length s ≤ length d → 0 ≡ put_fault 20 d s
      unfolding put_fault header_size
      put-fine l = rw (← is, z, le-ltb (length d) 164 a, le-ltb 1048576 (length d) b, le-ltb (length d) (length s) l)

module _ (n : ℕ) (d s : List ℕ) {x : ℕ} (is : x ≡ put_fault n d s) where
  -- a bundle that is put in has room
  put-room : put_fault n d s ≡ 0 → length s ≤ length d
  unfolding put_fault
  put-room e = ⊎_elim (λ l. absurd (refused (bundle_fault n s) (ltb (length d) (header_size n) || ltb 1048576 (length d)) (rw (lt-ltb (length d) (length s) l) at e))) (λ l. l) (under-or-not (length d) (length s))
    where
      refused : (b : ℕ) (t : Bool) → cond (eqb b 0) (cond t 1 11) b ≡ 0 → ⊥
      refused b t q = go (eqb b 0) t refl q
        where
          go : (u t : Bool) → eqb b 0 ≡ u → cond u (cond t 1 11) b ≡ 0 → ⊥
          go true true r q = omega (arith, q)
          go true false r q = omega (arith, q)
          go false t r q = eqb-false b 0 r q

  pub put-so : x ≡ 0 → {last : List ℕ} → last ≡ written d 0 s → last ≡ bundle_put n d s
  unfolding bundle_put
  put-so z e = e ∙ rw (← is, z) (written_behind [] d s (omega (arith, put-room (sym is ∙ z))))

  pub put-not : (x ≡ 0 → ⊥) → d ≡ bundle_put n d s
  unfolding bundle_put
  put-not z = rw (← is, ne_eqb x 0 z)

-- ---- taken out
pub length-read : (d : List ℕ) {lens : List ℕ} {sum : ℕ} → drawer_fault 20 d ≡ 0 → lens ≡ lengths_of 20 d → sum ≡ all_lengths 20 lens → 164 + sum ≡ bundle_length 20 (file_at d)
unfolding header_size
length-read d fine l s = rw (s, l) (sym (bundle-sum 20 d fine))

module _ (n : ℕ) (d out : List ℕ) {x : ℕ} (is : x ≡ drawer_fault n d) where
  pub take-refused : (x ≡ 0 → ⊥) → (record { refusal = x; length = 0 } ≡ taken_bundle n d (length out)) × (out ≡ taken_out n d out)
  unfolding taken_bundle taken_out take_fault change_of
  take-refused z = (rw (← is, ne_eqb x 0 z, ne_eqb x 0 z), rw (← is, ne_eqb x 0 z, ne_eqb x 0 z))

  module _ (z : x ≡ 0) {size : ℕ} (size_is : size ≡ bundle_length n (file_at d)) where
    pub take-full : length out < size → (record { refusal = 5; length = 0 } ≡ taken_bundle n d (length out)) × (out ≡ taken_out n d out)
    unfolding taken_bundle taken_out take_fault change_of
    take-full l =
        let full = lt-ltb (length out) (bundle_length n (file_at d)) (rw size_is at l) in
        (rw (← is, z, full), rw (← is, z, full))

    pub take_done : size ≤ length out → {last : List ℕ} → last ≡ output_of n (file_at d) out → (record { refusal = 0; length = size } ≡ taken_bundle n d (length out)) × (last ≡ taken_out n d out)
    unfolding taken_bundle taken_out take_fault change_of
    take_done l e =
        let fits = le-ltb (length out) (bundle_length n (file_at d)) (rw size_is at l) in
        (rw (← is, z, fits, size_is), rw (← is, z, fits) e)
