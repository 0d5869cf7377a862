-- `bundle::length_after` meets its contract: what the two parts differ by.
use Rattle.bundle.proofs.Laws.{part-within, length-new, length_without}
use Rattle.bundle.proofs.length_after.Goals as goal

pub overflow_sub-rest : goal.overflow_sub-rest
overflow_sub-rest c = part-within _ _ c.requires.0 _ c.requires.1 c.part_at.ensures

pub returns-then-present : goal.returns-then-present
returns-then-present c = length-new _ _ c.requires.0 _ c.requires.1 c.part_at.ensures _ _ c.if-present.true

pub returns-else-present : goal.returns-else-present
returns-else-present c = length_without _ _ c.requires.0 _ c.requires.1 c.part_at.ensures _ _ c.if-present.false
