-- The hints of names: none of any field's at first, then those of one field more.
-- Assumes nothing.
use Prim.Native.Nat.{ℕ, ◌+◌}
use mathlib.Core.Path.{◌≡◌, refl}
use mathlib.Core.List.{List}
use native.Mathlib.Numerals.{add-one}
use Rattle.table_name.specs.Hints.{with_hint, hints_of}

module _ (rows names hints : List ℕ) where
  pub hints_none : hints_of rows names 0 hints ≡ hints
  unfolding hints_of
  hints_none = refl

  pub hints_more : (k : ℕ) → hints_of rows names (k + 1) hints ≡ with_hint rows names k (hints_of rows names k hints)
  unfolding hints_of
  hints_more k = rw (add-one k, hints_of)

pub ruleset filling = (hints_none, hints_more)
