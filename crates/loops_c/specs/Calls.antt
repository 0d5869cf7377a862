-- The call for a loop that other programs make: what is shown is two numbers and a list.
use Rattle.std.specs.Prelude.{ℕ, ◌≡◌, List, Some, None, Ok, Err}
use Rattle.show_loop.specs.Show.{Shown, ShowsLoopIn}

-- the refusal, or 0
unfoldable pub refusal_shown : Shown → ℕ
refusal_shown (Ok m) = 0
refusal_shown (Err k) = k

-- how many records the loop has, 0 where none is shown
unfoldable pub records_shown : Shown → ℕ
records_shown (Ok None) = 0
records_shown (Ok (Some m)) = m
records_shown (Err k) = 0

-- with a workspace of so many numbers the call answers these two and leaves the list so. A refusal is never 0 and no loop has 0
-- records, so they say which of the three is shown.
unfoldable pub LoopCalled : ℕ → List ℕ → List ℕ → List ℕ → ℕ → ℕ → Type 0
LoopCalled lent s before after refusal records =
    (shown : Shown) × ShowsLoopIn lent s before after shown × (refusal ≡ refusal_shown shown) × (records ≡ records_shown shown)
