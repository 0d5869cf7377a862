-- `bundle::number_at` meets its contract: past the end all bytes count 0.
use Rattle.bundle.proofs.Laws.{number_past}
use Rattle.bundle.proofs.number_at.Goals as goal

pub returns-then-s-k : goal.returns-then-s-k
returns-then-s-k c = number_past _ _ _ c.if-s-k.true
