-- A part, and no part.
-- Assumes nothing.
use Prim.Native.Nat.{ℕ, ◌-◌, ◌≤◌, ◌<◌}
use mathlib.Core.Path.{◌≡◌}
use mathlib.Core.List.{List, []}
use lib.ListN.{length, take, drop}
use borrow.Author.Tests.{le-leb, lt-leb}
use Rattle.parts.specs.Part.{part_of}

module _ (s : List ℕ) (from to : ℕ) where
  pub part-is : from ≤ to → to ≤ length s → part_of s from to ≡ take (to - from) (drop from s)
  unfolding part_of
  part-is l m = rw (le-leb from to l, le-leb to (length s) m)

  pub part_turned : to < from → part_of s from to ≡ []
  unfolding part_of
  part_turned l = rw (lt-leb from to l)

  pub part-past : from ≤ to → length s < to → part_of s from to ≡ []
  unfolding part_of
  part-past l m = rw (le-leb from to l, lt-leb to (length s) m)
