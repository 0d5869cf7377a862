-- `link_loops::all_below` meets its contract: what is left decides as the whole does.
-- Assumes nothing.
use mathlib.Core.Path.{◌≡◌}
use lib.ListN.{drop}
use Rattle.link_loops.specs.Links.{all_below}
use Rattle.link_loops.proofs.all_below.Given as goal

abbrev pub invariant-loop-c : goal.invariant-loop-c
invariant-loop-c l = all_below l.n l.from ≡ all_below l.n (drop l.c-index l.from)
