-- `json_bytes::word_at` meets its contract: what is left of the word, read from here, answers as the whole word does.
use Rattle.std.proofs.Common.{◌≡◌, ◌+◌, ◌≤◌, drop, length}
use Rattle.json_bytes.specs.Reads.{spelled_at}
use Rattle.json_bytes.proofs.word_at.Given as goal

abbrev pub invariant-loop-k : goal.invariant-loop-k
invariant-loop-k l = (l.k ≤ length l.word) × (spelled_at l.s l.at l.word ≡ spelled_at l.s (l.at + l.k) (drop l.k l.word))
