-- `rule_shape::rule_of` meets its contract: the number of the shape picks it.
use Prim.Native.Nat.{ℕ, zero, suc, ◌≤◌}
use mathlib.Core.Path.{◌≡◌, sym}
use native.Mathlib.Omega.{arith}
use Rattle.rule_shape.specs.Rule.{shapes_of, rule_of}
use Rattle.rule_shape.proofs.Laws.{last-shape}
use Rattle.rule_shape.proofs.rule_of.Goals as goal

-- what the last arm knows: the number is none of the first k
abbrev Passed : ℕ → ℕ → Type 0
Passed n zero = Unit
Passed n (suc k) = Passed n k × (n ≡ k → ⊥)

more : (n k : ℕ) → k ≤ n → (n ≡ k → ⊥) → suc k ≤ n
more n k h p = omega arith

passed : (n k : ℕ) → Passed n k → k ≤ n
passed n zero p = omega arith
passed n (suc k) p = more n k (passed n k p.0) p.1

pub returns-in-0 : goal.returns-in-0
unfolding rule_of shapes_of
returns-in-0 c = rw c.in-0.is

pub returns-in-1 : goal.returns-in-1
unfolding rule_of shapes_of
returns-in-1 c = rw c.in-1.is

pub returns-in-2 : goal.returns-in-2
unfolding rule_of shapes_of
returns-in-2 c = rw c.in-2.is

pub returns-in-3 : goal.returns-in-3
unfolding rule_of shapes_of
returns-in-3 c = rw c.in-3.is

pub returns-in-4 : goal.returns-in-4
unfolding rule_of shapes_of
returns-in-4 c = rw c.in-4.is

pub returns-in-5 : goal.returns-in-5
unfolding rule_of shapes_of
returns-in-5 c = rw c.in-5.is

pub returns-in-6 : goal.returns-in-6
unfolding rule_of shapes_of
returns-in-6 c = rw c.in-6.is

pub returns-in-7 : goal.returns-in-7
unfolding rule_of shapes_of
returns-in-7 c = rw c.in-7.is

pub returns-in-8 : goal.returns-in-8
unfolding rule_of shapes_of
returns-in-8 c = rw c.in-8.is

pub returns-in-9 : goal.returns-in-9
unfolding rule_of shapes_of
returns-in-9 c = rw c.in-9.is

pub returns-in-10 : goal.returns-in-10
unfolding rule_of shapes_of
returns-in-10 c = rw c.in-10.is

pub returns-in-11 : goal.returns-in-11
unfolding rule_of shapes_of
returns-in-11 c = rw c.in-11.is

pub returns-in-12 : goal.returns-in-12
unfolding rule_of shapes_of
returns-in-12 c = rw c.in-12.is

pub returns-in-13 : goal.returns-in-13
unfolding rule_of shapes_of
returns-in-13 c = rw c.in-13.is

pub returns-in-14 : goal.returns-in-14
unfolding rule_of shapes_of
returns-in-14 c = rw c.in-14.is

pub returns-in-15 : goal.returns-in-15
unfolding rule_of shapes_of
returns-in-15 c = rw c.in-15.is

pub returns-in-16 : goal.returns-in-16
unfolding rule_of shapes_of
returns-in-16 c = rw c.in-16.is

pub returns-in-17 : goal.returns-in-17
unfolding rule_of shapes_of
returns-in-17 c = rw c.in-17.is

pub returns-in_default : goal.returns-in_default
returns-in_default c = sym (last-shape _ _ _ _ _ _ _ _ _ (passed _ 18 c.in_default.in_default-own.rest))
