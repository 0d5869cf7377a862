-- What the definitions of rules see of a table that is lent: its lists and numbers.
use Rattle.rule_cells.specs.Cells.{Table, table}
use Rattle.rule_cells.specs.declared.Table.{Table as Lent}

abbrev pub seen : Lent → Table
seen t = table t.text.now t.cells.now t.width t.records

-- what a rule on single records sees of it, whatever the number of the records
abbrev pub cells_seen : Lent → Table
cells_seen t = table t.text.now t.cells.now t.width 0
