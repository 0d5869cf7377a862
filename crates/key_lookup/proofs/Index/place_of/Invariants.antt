-- `key_lookup::Index::place_of` meets its contract: the turns that are left end where the whole does.
use Prim.Native.Nat.{◌-◌}
use Rattle.json_chars.specs.Chars.{chars_at}
use Rattle.number_search.proofs.Laws.{Searching}
use Rattle.rule_cells.specs.Seen.{cells_seen}
use Rattle.key_lookup.specs.Lookup.{stands_before}
use Rattle.key_lookup.proofs.Index.place_of.Given as goal

abbrev pub invariant-loop-lo : goal.invariant-loop-lo
invariant-loop-lo l = Searching (stands_before (cells_seen l.self.table) l.self.lookup l.self.sums.now l.sum (chars_at l.s l.at)) l.order l.lo l.hi

abbrev pub decreases-loop-lo : goal.decreases-loop-lo
decreases-loop-lo l = l.hi - l.lo
