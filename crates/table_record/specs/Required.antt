-- For the code's sake alone: the fields that must hold a value, by their numbers, so that a record's closing brace has to
-- look at no others.
use Rattle.std.specs.Prelude.{ℕ, zero, suc, ◌%◌, cond, List, [], ◌∷◌, map, take}
use Rattle.table_rows.specs.Rows.{nullable_at}

-- those of n fields from number f on
unfoldable pub required_from : List ℕ → ℕ → ℕ → List ℕ
required_from rows zero f = []
required_from rows (suc n) f =
    let others = required_from rows n (suc f) in
    cond (nullable_at rows f) others (f ∷ others)

-- those of the first count fields as bytes, as many as have room
unfoldable pub required_bytes : List ℕ → ℕ → ℕ → List ℕ
required_bytes rows count room = take room (map (λ f. f % 256) (required_from rows count 0))
