-- `mark_numbers::fill_fresh` meets its contract: each list is filled with one number.
use Rattle.std.proofs.Common.{rules}
use Rattle.mark_numbers.proofs.Laws.{fresh-filled}
use Rattle.mark_numbers.proofs.fill_fresh.Goals as goal

pub returns : goal.returns
returns c = fresh-filled _ _ _ _ _ _ _ c.requires (search rules) (search rules) (search rules)
