-- `plain_rules::plain_break` meets its contract: each arm is the line of its shape, and the last one the rule as it is.
use Rattle.table_rows.specs.Rows.{value_text_at}
use Rattle.rules.specs.Judge.{rule_break}
use Rattle.plain_rules.proofs.plain_break.Goals as goal

pub returns-in-KeyOf : goal.returns-in-KeyOf
unfolding rule_break
returns-in-KeyOf c = rw (← c.rule_at-rule.ensures, c.in-KeyOf.is) c.key_plain.ensures

pub returns-in-TargetIn : goal.returns-in-TargetIn
unfolding rule_break
returns-in-TargetIn c = rw (← c.rule_at-rule.ensures, c.in-TargetIn.is) c.target_plain.ensures

pub returns-in-EachHas : goal.returns-in-EachHas
unfolding rule_break
returns-in-EachHas c = rw (← c.rule_at-rule.ensures, c.in-EachHas.is) c.target_plain-in-EachHas.ensures

pub returns-in-ParentIs : goal.returns-in-ParentIs
unfolding rule_break value_text_at
returns-in-ParentIs c = rw (← c.rule_at-rule.ensures, c.in-ParentIs.is, ← c.value_start.ensures, ← c.value_end.ensures, ← c.part-word.ensures) c.parent_type_plain.ensures
