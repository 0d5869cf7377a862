-- A part of a list of bytes.
use Rattle.std.specs.Prelude.{ℕ, ◌-◌, cond, ◌&&◌, List, [], length, take, drop, leb}

-- the part from one place up to another, where there is such a part
unfoldable pub part_of : List ℕ → ℕ → ℕ → List ℕ
part_of s from to = cond (leb from to && leb to (length s)) (take (to - from) (drop from s)) []
