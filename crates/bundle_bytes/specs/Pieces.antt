-- Pieces that stand one behind the other, and bytes written over a part of others.
use Rattle.std.specs.Prelude.{ℕ, zero, suc, ◌+◌, cond, List, [], ◌++◌, length, take, drop, leb, eqb}

-- the first n pieces, one behind the other
unfoldable pub joined : (ℕ → List ℕ) → ℕ → List ℕ
joined piece zero = []
joined piece (suc n) = joined piece n ++ piece n

-- where piece n then starts: the lengths of all before it, together
unfoldable pub piece_start : (ℕ → List ℕ) → ℕ → ℕ
piece_start piece zero = 0
piece_start piece (suc n) = piece_start piece n + length (piece n)

-- the same things with another one at place k
unfoldable pub changed : {A : Type 0} → (ℕ → A) → ℕ → A → ℕ → A
changed f k x j = cond (eqb j k) x (f j)

-- bytes d with v written over them from a place on, where there is room for v; else d as it was
unfoldable pub written : List ℕ → ℕ → List ℕ → List ℕ
written d at v = cond (leb (at + length v) (length d)) (take at d ++ v ++ drop (at + length v) d) d
