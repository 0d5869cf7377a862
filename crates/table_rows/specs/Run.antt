-- For the code's sake alone: the two tests of a row's table as one, so that one loop serves both.
use Rattle.std.specs.Prelude.{ℕ, Bool, cond, not, eqb}

-- whether a row that names table t counts: a row of table k, or where `own` is false a row of any other
unfoldable pub counts : ℕ → Bool → ℕ → Bool
counts k own t = cond own (eqb t k) (not (eqb t k))
