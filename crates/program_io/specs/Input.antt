-- How many bytes an input has that was read into a buffer of that length.
use Rattle.std.specs.Prelude.{ℕ, ◌≤◌}
use Rattle.program_io.specs.declared.Input.{Input}
use Rattle.program_io.specs.declared.Input.TheVariants.{Whole, Failed}

abbrev pub Within : Input → ℕ → Type 0
Within (Whole n) most = n ≤ most
Within (Failed error) most = Unit {0}
