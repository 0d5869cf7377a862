-- For the code's sake alone: how a bundle's files are put down in a list of where they stand.
use Rattle.std.specs.Prelude.{ℕ, zero, suc, ◌+◌, cond, List}
use Rattle.parts.specs.Files.{File}
use Rattle.standing.specs.Standing.{standing_with}
use Rattle.bundle_layout.specs.Bundle.{offset_at, length_at, is_omitted}

-- the first n files of a bundle
unfoldable pub stands_in : List ℕ → ℕ → List ℕ → List ℕ
stands_in s zero stand = stand
stands_in s (suc k) stand =
    standing_with (stands_in s k stand) k (cond (is_omitted s k) 0 1) (offset_at s k) (offset_at s k + length_at s k)
