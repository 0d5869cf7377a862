-- `quarter_text::put_comma_text` meets its contract: the names of the columns and all lines.
-- Assumes nothing.
use Rattle.quarter_text.proofs.Puts.{comma-put}
use Rattle.json_bytes.specs.Ascii.{codes}
use Rattle.quarter_text.specs.Table.{column_names}
use Rattle.quarter_text.proofs.put_comma_text.Goals as goal

pub returns : goal.returns
unfolding codes column_names
returns c = comma-put _ _ _ c.put_text-names.ensures c.put_lines.ensures
