-- `found_marks::rule_mark` meets its contract: what each call gives is what the files' tables are made of.
-- Assumes nothing.
use Rattle.found_marks.proofs.Laws.{rule-unjudged, rule-judged}
use Rattle.found_marks.proofs.rule_mark.Goals as goal

pub returns-then-not-is_judged : goal.returns-then-not-is_judged
returns-then-not-is_judged c = rule-unjudged _ _ _ _ _ _ _ _ _ _ _ c.first_file-first.ensures c.second_file-second.ensures _ _ c.kind_at.ensures c.kind_at-2.ensures _ c.is_judged.ensures c.if-not-is_judged.true

pub returns : goal.returns
returns c = rule-judged _ _ _ _ _ _ _ _ _ _ _ c.first_file-first.ensures c.second_file-second.ensures _ _ c.kind_at.ensures c.kind_at-2.ensures _ c.is_judged.ensures c.if-not-is_judged.false _ _ c.part_standing-s.ensures c.part_standing-u.ensures _ _ c.width_of-width.ensures c.width_of-u_width.ensures _ _ c.number_at-n.ensures c.number_at-u_n.ensures _ _ c.cells_of.ensures c.cells_of-2.ensures _ _ c.record_cells.ensures c.record_cells-2.ensures _ c.rule_break-found.ensures _ c.mark_of.ensures
