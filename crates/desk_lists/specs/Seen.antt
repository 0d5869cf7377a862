-- For the code's sake alone: whether a desk sees a change at all.
use Rattle.std.specs.Prelude.{Bool, true, false}
use Rattle.desks_calls.specs.declared.Seen.{Seen}
use Rattle.desks_calls.specs.declared.Seen.TheVariants.{Nothing, Own, Shared}

unfoldable pub is_seen : Seen → Bool
is_seen Nothing = false
is_seen Own = true
is_seen Shared = true
