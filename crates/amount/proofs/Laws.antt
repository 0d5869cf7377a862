-- No amount is farther from zero than the largest; and a count of ten-thousandths is the number itself, exactly.
-- Assumes nothing.
use Prim.Native.Nat.{ℕ, ◌+◌, ◌-◌, ◌≤◌, ◌<◌}
use mathlib.Core.Path.{◌≡◌, refl}
use mathlib.Core.Bool.{Bool, true, false, cond, ◌&&◌}
use native.Mathlib.Omega.{arith}
use borrow.Author.Tests.{le-leb, lt-leb, leb-true}
use lib.Dec.{leb}
use lib.IntN.{pos, nat_abs}
use Rattle.exact_sums.proofs.Signed.{negative-within}
use Rattle.json_number.specs.Number.{whole_of, within_limits}
use Rattle.json_number.specs.declared.Integer.{Integer}
use Rattle.json_number.specs.declared.Integer.TheVariants.{Is, Fraction, TooLarge}
use Rattle.rule_cells.specs.Cells.{Table}
use Rattle.amount.specs.Amount.{largest_amount, signed, amount_of, ten_thousandths_in, amount_in}

pub signed-within : (negative : Bool) (size : ℕ) → nat_abs (signed negative size) ≡ size
signed-within true size = negative-within size
signed-within false size = refl

amount-of-within : (x : Integer) → nat_abs (amount_of x) ≤ largest_amount
unfolding amount_of
amount-of-within (Is negative size) = go (leb size largest_amount) refl
  where
    go : (t : Bool) → leb size largest_amount ≡ t → nat_abs (cond t (signed negative size) (pos 0)) ≤ largest_amount
    go true e = omega (arith, leb-true size largest_amount e, signed-within negative size)
    go false e = omega arith
amount-of-within Fraction = omega arith
amount-of-within TooLarge = omega arith

pub amount-within : (t : Table) (r k : ℕ) → nat_abs (amount_in t r k) ≤ largest_amount
unfolding amount_in
amount-within t r k = amount-of-within (ten_thousandths_in t r k)

-- a p over 11 in ten-thousandths is over 15, outside the limits
and-false : (b : Bool) → (b && false) ≡ false
and-false true = refl
and-false false = refl

pub far-too-large : (negative : Bool) (c p15 : ℕ) → 26 < p15 → TooLarge ≡ whole_of negative c (p15 + 4)
unfolding whole_of within_limits
far-too-large negative c p15 h = rw (lt-leb (p15 + 4) 30 (omega arith), and-false (leb c 999999999999999))

pub amount-near : (x : Integer) → nat_abs (amount_of x) < 9223372036854775808
amount-near x = omega (arith, amount-of-within x)

pub at-most-largest : (negative : Bool) (size : ℕ) → size ≤ largest_amount → amount_of (Is negative size) ≡ signed negative size
unfolding amount_of
at-most-largest negative size h = rw (le-leb size largest_amount h)
