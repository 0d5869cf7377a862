-- `json_text::bytes_end` meets its contract: what is left of the run from here ends where the whole run ends.
use Rattle.std.proofs.Common.{◌≡◌, ◌+◌, ◌≤◌, max, length, drop}
use Rattle.json_bytes.specs.Reads.{leading}
use Rattle.json_text.specs.Run.{is_graphic, run_end}
use Rattle.json_text.proofs.bytes_end.Given as goal

abbrev pub invariant-loop-k : goal.invariant-loop-k
invariant-loop-k l = (l.k ≤ max l.i (length l.s)) × (run_end l.s l.i ≡ l.k + leading is_graphic (drop l.k l.s))
