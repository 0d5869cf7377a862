-- `link_loops::show_in` meets its contract: chained, walked, and the ring written.
-- Assumes nothing.
use Rattle.link_loops.proofs.Shown.{unwalked, ring-fits, ring-shown}
use Rattle.link_loops.proofs.show_in.Goals as goal

pub chain_links-requires : goal.chain_links-requires
chain_links-requires c = c.requires.unchained

pub walk-ring-requires : goal.walk-ring-requires
walk-ring-requires c = unwalked c.requires c.chain_links.ensures

pub write_ring-requires : goal.write_ring-requires
write_ring-requires c = ring-fits _ _ _ _ _ c.walk-ring.ensures c.requires.few _ c.requires.room

pub returns : goal.returns
returns c = ring-shown _ _ _ _ _ c.walk-ring.ensures _ _ _ c.requires.room c.write_ring.ensures.value c.write_ring.ensures.list_after
