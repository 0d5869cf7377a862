-- `desk_refusals::holds_only` meets its contract. The loop's invariant: the first k files are such.
-- Assumes nothing.
use mathlib.Core.Bool.{true}
use mathlib.Core.Path.{◌≡◌}
use Rattle.bundle_layout.specs.Bundle.{file_at}
use Rattle.desks_calls.specs.Join.{holds_only}
use Rattle.desk_refusals.proofs.holds_only.Given as goal

abbrev pub invariant-loop-k : goal.invariant-loop-k
invariant-loop-k l = holds_only l.calendars (file_at l.s) l.k ≡ true
