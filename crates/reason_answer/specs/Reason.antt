-- What is told of one mark: document 02, order 6. The variants of `Reason` and the parts of `Shown`, each with what it is for,
-- are in the code.
use Rattle.std.specs.Prelude.{ℕ}
use Rattle.reason_answer.specs.declared.Shown.{Shown}

-- the file, the record and its companion, the deciding field, and where its value stands
abbrev pub shown_at : ℕ → ℕ → ℕ → ℕ → ℕ → ℕ → Shown
shown_at file r companion field start length =
    record { file = file; «record» = r; companion = companion; field = field; start = start; length = length }
