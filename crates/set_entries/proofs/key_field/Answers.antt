-- `set_entries::key_field` meets its contract.
use Rattle.set_entries.proofs.Laws.{outline-field, first_field}
use Rattle.set_entries.proofs.key_field.Goals as goal

pub returns-then-k-eq15 : goal.returns-then-k-eq15
returns-then-k-eq15 c = outline-field _ c.if-k-eq15.true

pub returns-else-k-eq15 : goal.returns-else-k-eq15
returns-else-k-eq15 c = first_field _ c.if-k-eq15.false
