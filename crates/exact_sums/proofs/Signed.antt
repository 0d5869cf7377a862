-- How far a sum is from zero, and that a signed 64-bit number holds every whole number that is near enough.
-- Assumes nothing.
use Prim.Native.Nat.{ℕ, zero, suc, ◌+◌, ◌-◌, ◌≤◌, ◌<◌}
use mathlib.Core.Path.{◌≡◌, refl, ap, ◌∙◌}
use mathlib.Core.Bool.{Bool, true, false, cond}
use native.Mathlib.Omega.{arith}
use borrow.Author.Tests.{ltb-true}
use lib.Dec.{ltb}
use lib.IntN.{ℤ, pos, negsuc, sub_ℕ, ◌+ℤ◌, ◌-ℤ◌, neg_ℤ, nat_abs, +ℤ_idl}
use mir.Syntax.{w64}
use mir.Val.{SFits, to_z, of_z}
use mir.Facts.{to_z-of_z, to_z_pos}

difference-within : (a b : ℕ) → nat_abs (sub_ℕ a b) ≤ a + b
difference-within a b = go (ltb a b) refl
  where
    go : (t : Bool) → ltb a b ≡ t → nat_abs (cond t (negsuc (b - suc a)) (pos (a - b))) ≤ a + b
    go true e = omega (arith, ltb-true a b e)
    go false e = omega arith

-- a sum is no farther from zero than its two parts together
pub sum-within : (m k : ℤ) → nat_abs (m +ℤ k) ≤ nat_abs m + nat_abs k
sum-within (pos a) (pos b) = omega arith
sum-within (pos a) (negsuc b) = difference-within a (suc b)
sum-within (negsuc a) (pos b) = omega (arith, difference-within b (suc a))
sum-within (negsuc a) (negsuc b) = omega arith

pub negative-within : (n : ℕ) → nat_abs (neg_ℤ (pos n)) ≡ n
negative-within zero = refl
negative-within (suc n) = refl

-- a number nearer than two to the 63 is held
pub held-near : (z : ℤ) → nat_abs z < 9223372036854775808 → SFits w64 z
held-near (pos a) h = record { sfits = h }
held-near (negsuc a) h = record { sfits = omega arith }

-- ---- two numbers added, as the code does it: the second is the result of a call, which is read from its bits
module _ (m x : ℤ) (a b : ℕ) (near-m : nat_abs m ≤ a) (near-x : nat_abs x ≤ b) (near : a + b < 9223372036854775808) where
  as_read : to_z w64 (of_z w64 x) ≡ x
  as_read = to_z-of_z (held-near x (omega arith))

  near-sum : nat_abs (m +ℤ x) ≤ a + b
  near-sum = omega (arith, sum-within m x)

  pub held-sum : SFits w64 (m +ℤ to_z w64 (of_z w64 x))
  held-sum = rw as_read (held-near (m +ℤ x) (omega (arith, near-sum)))

  pub sum-read : to_z w64 (of_z w64 (m +ℤ to_z w64 (of_z w64 x))) ≡ m +ℤ x
  sum-read = to_z-of_z held-sum ∙ ap (λ y. m +ℤ y) as_read

-- what a call answers, read from its bits
pub read_back : {x : ℤ} (z : ℤ) → x ≡ z → nat_abs z < 9223372036854775808 → to_z w64 (of_z w64 x) ≡ z
read_back z e h = ap (λ y. to_z w64 (of_z w64 y)) e ∙ to_z-of_z (held-near z h)

-- a number below two to the 63, cast, and what is that much below zero
pub cast-read : (n : ℕ) → n < 9223372036854775808 → to_z w64 n ≡ pos n
cast-read n h = to_z_pos w64 h

module _ (n : ℕ) (h : n < 9223372036854775808) where
  below-zero : pos 0 -ℤ to_z w64 n ≡ neg_ℤ (pos n)
  below-zero = rw (cast-read n h) (+ℤ_idl (neg_ℤ (pos n)))

  pub held_below : SFits w64 (pos 0 -ℤ to_z w64 n)
  held_below = rw below-zero (held-near (neg_ℤ (pos n)) (omega (arith, negative-within n)))

  pub below-read : to_z w64 (of_z w64 (pos 0 -ℤ to_z w64 n)) ≡ neg_ℤ (pos n)
  below-read = to_z-of_z held_below ∙ below-zero
