-- For the code's sake alone: what a search for a file in the way answers.
use Rattle.std.specs.Prelude.{ℕ, ◌≤◌, ◌<◌, ◌≡◌, true, List}
use Rattle.drawer_layout.specs.Places.{is_in_way, is_free}

-- the number r of the first of n files that has one of the m bytes from p on, or n where none has
pub record Way (offs lens : List ℕ) (n p m r : ℕ) : Type 0 where
  pub within : r ≤ n
  pub free : is_free offs lens p m r ≡ true
  pub met : r < n → is_in_way offs lens p m r ≡ true
