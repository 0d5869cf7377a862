-- Sums one term longer, how far they are from zero, and sums of sums.
-- Assumes nothing.
use Prim.Native.Nat.{ℕ, zero, suc, ◌+◌, ◌*◌, ◌≤◌, ◌<◌}
use mathlib.Core.Path.{◌≡◌, refl}
use mathlib.Core.List.{[]}
use native.Mathlib.Numerals.{add-one}
use native.Mathlib.Omega.{arith}
use lib.IntN.{ℤ, ◌+ℤ◌, nat_abs, +ℤ_idl, +ℤ_idr, +ℤ_assoc, +ℤ_comm}
use Rattle.exact_sums.specs.Sums.{sum_to}
use Rattle.exact_sums.proofs.Signed.{sum-within}

pub sum-next : (f : ℕ → ℤ) (i : ℕ) → sum_to f (i + 1) ≡ sum_to f i +ℤ f i
unfolding sum_to
sum-next f i = rw (add-one i)

pub sum_near : (f : ℕ → ℤ) (b : ℕ) → ((i : ℕ) → nat_abs (f i) ≤ b) → (n : ℕ) → nat_abs (sum_to f n) ≤ n * b
unfolding sum_to
sum_near f b h zero = omega arith
sum_near f b h (suc n) = omega (arith, sum-within (sum_to f n) (f n), sum_near f b h n, h n)

pub sum_same : (f g : ℕ → ℤ) (n : ℕ) → ((i : ℕ) → i < n → f i ≡ g i) → sum_to f n ≡ sum_to g n
unfolding sum_to
sum_same f g zero h = refl
sum_same f g (suc n) h = rw (h n (omega arith), sum_same f g n (λ i l. h i (omega arith)))
