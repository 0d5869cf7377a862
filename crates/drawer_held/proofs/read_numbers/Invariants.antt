-- `drawer_held::read_numbers` meets its contract.
use mathlib.Core.Path.{◌≡◌}
use lib.ListN.{length}
use Rattle.drawer_held.proofs.Laws.{Filled}
use Rattle.drawer_held.specs.Drawer.{header_number}
use Rattle.drawer_held.proofs.read_numbers.Given as goal

abbrev pub invariant-loop-i : goal.invariant-loop-i
invariant-loop-i l = (length l.out ≡ length l.initial.out) × Filled (header_number l.d l.lengths) l.i l.initial.out l.out
