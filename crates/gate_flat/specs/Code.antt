-- For the code's sake alone: a refusal, and how far the entries were listed. No statement of a public function names what stands
-- here.
use Rattle.std.specs.Prelude.{ℕ, cond, List, length, leb, eqb}
use Rattle.entries.specs.declared.Entry.{Entry}
use Rattle.gate_flat.specs.declared.Listed.{Listed}

unfoldable pub refused_by : ℕ → Listed
refused_by refusal = record { refusal = refusal; length = 0; entries = 0 }

-- 8 after another refusal
unfoldable pub refusal_with : ℕ → List Entry → ℕ → ℕ
refusal_with refusal entries room = cond (eqb refusal 0) (cond (leb (length entries) room) 0 8) refusal

unfoldable pub counted_of : ℕ → List Entry → ℕ → Listed
counted_of refusal entries room =
    record { refusal = refusal_with refusal entries room; length = 0; entries = cond (eqb (refusal_with refusal entries room) 0) (length entries) 0 }

unfoldable pub unless_refused : ℕ → List ℕ → List ℕ → List ℕ
unless_refused refusal done work = cond (eqb refusal 0) done work
