-- `json_bytes::skip_spaces` meets its contract: what is left of the run from here ends where the whole run ends.
use Rattle.std.proofs.Common.{◌≡◌, ◌+◌, ◌≤◌, drop, length, max}
use Rattle.json_bytes.specs.Reads.{leading, is_space, spaces_end}
use Rattle.json_bytes.proofs.skip_spaces.Given as goal

abbrev pub invariant-loop-i : goal.invariant-loop-i
invariant-loop-i l = (l.i ≤ max l.at (length l.s)) × (spaces_end l.s l.at ≡ l.i + leading is_space (drop l.i l.s))
