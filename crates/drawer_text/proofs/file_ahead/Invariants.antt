-- `drawer_text::file_ahead` meets its contract.
-- Assumes nothing.
use mathlib.Core.Path.{◌≡◌}
use Rattle.drawer_text.specs.Ahead.{file_ahead}
use Rattle.drawer_text.proofs.file_ahead.Given as goal

abbrev pub invariant-loop-i : goal.invariant-loop-i
invariant-loop-i l = l.best ≡ file_ahead l.offs l.lens l.c l.room l.i
