-- `json_text::lowest_odd` meets its contract: up to the first byte that is no graphic one, no sum carries and no difference
-- borrows.
use Rattle.json_text.proofs.Lowest.{lowest-told}
use Rattle.json_text.proofs.lowest_odd.Goals as goal

pub returns : goal.returns
returns c = lowest-told _ _ _ _ _
    c.wrapping_sub_u64-low.ensures.value
    c.wrapping_add_u64-high.ensures.value
    c.wrapping_sub_u64-quote.ensures.value
    c.wrapping_sub_u64-slash.ensures.value
