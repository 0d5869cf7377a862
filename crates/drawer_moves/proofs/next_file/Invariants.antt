-- `drawer_moves::next_file` meets its contract.
use Rattle.drawer_moves.specs.Next.{Next}
use Rattle.drawer_moves.proofs.next_file.Given as goal

abbrev pub invariant-loop-i : goal.invariant-loop-i
invariant-loop-i l = Next 20 l.offs l.lens l.c l.i l.best
