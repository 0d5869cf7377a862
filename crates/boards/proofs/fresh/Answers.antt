-- `boards::fresh` meets its contract: each list holds one number at each place.
use Rattle.mark_numbers.specs.Marks.{marks_from, fresh_marks}
use Rattle.boards.proofs.Replicated.{same-at-each}
use Rattle.boards.proofs.fresh.Goals as goal

pub returns : goal.returns
unfolding fresh_marks marks_from
returns g c = rw (same-at-each g.row.N 2, same-at-each g.row.N 0)
