-- `rules::rule_break` meets its contract: each arm is the line of its shape.
use mathlib.Core.Path.{ap, ◌∙◌}
use Rattle.table_rows.specs.Rows.{value_text_at}
use Rattle.rules.specs.Judge.{alone, rule_break}
use Rattle.rules.proofs.rule_break.Goals as goal

pub returns-in-KeyOf : goal.returns-in-KeyOf
unfolding rule_break
returns-in-KeyOf c = rw (← c.rule_at-rule.ensures, c.in-KeyOf.is) c.key_break.ensures

pub returns-in-OneOf : goal.returns-in-OneOf
unfolding rule_break
returns-in-OneOf c = rw (← c.rule_at-rule.ensures, c.in-OneOf.is) (c.alone.ensures ∙ ap alone c.field_rule.ensures)

pub returns-in-NullUnless : goal.returns-in-NullUnless
unfolding rule_break
returns-in-NullUnless c = rw (← c.rule_at-rule.ensures, c.in-NullUnless.is) (c.alone-in-NullUnless.ensures ∙ ap alone c.field_rule-in-NullUnless.ensures)

pub returns-in-GivenIf : goal.returns-in-GivenIf
unfolding rule_break
returns-in-GivenIf c = rw (← c.rule_at-rule.ensures, c.in-GivenIf.is) (c.alone-in-GivenIf.ensures ∙ ap alone c.field_rule-in-GivenIf.ensures)

pub returns-in-GivenUnless : goal.returns-in-GivenUnless
unfolding rule_break
returns-in-GivenUnless c = rw (← c.rule_at-rule.ensures, c.in-GivenUnless.is) (c.alone-in-GivenUnless.ensures ∙ ap alone c.field_rule-in-GivenUnless.ensures)

pub returns-in-NoneBelow : goal.returns-in-NoneBelow
unfolding rule_break
returns-in-NoneBelow c = rw (← c.rule_at-rule.ensures, c.in-NoneBelow.is) (c.alone-in-NoneBelow.ensures ∙ ap alone c.none_below.ensures)

pub returns-in-SomeAbove : goal.returns-in-SomeAbove
unfolding rule_break
returns-in-SomeAbove c = rw (← c.rule_at-rule.ensures, c.in-SomeAbove.is) (c.alone-in-SomeAbove.ensures ∙ ap alone c.some_above.ensures)

pub returns-in-Together : goal.returns-in-Together
unfolding rule_break
returns-in-Together c = rw (← c.rule_at-rule.ensures, c.in-Together.is) (c.alone-in-Together.ensures ∙ ap alone c.together.ensures)

pub returns-in-LevelRun : goal.returns-in-LevelRun
unfolding rule_break
returns-in-LevelRun c = rw (← c.rule_at-rule.ensures, c.in-LevelRun.is) (c.alone-in-LevelRun.ensures ∙ ap alone c.level_rule.ensures)

pub returns-in-ParentGiven : goal.returns-in-ParentGiven
unfolding rule_break
returns-in-ParentGiven c = rw (← c.rule_at-rule.ensures, c.in-ParentGiven.is) c.parent_break.ensures

pub returns-in-AllGiven : goal.returns-in-AllGiven
unfolding rule_break
returns-in-AllGiven c = rw (← c.rule_at-rule.ensures, c.in-AllGiven.is) (c.alone-in-AllGiven.ensures ∙ ap alone c.all_given.ensures)

pub returns-in-NoneGiven : goal.returns-in-NoneGiven
unfolding rule_break
returns-in-NoneGiven c = rw (← c.rule_at-rule.ensures, c.in-NoneGiven.is) (c.alone-in-NoneGiven.ensures ∙ ap alone c.none_given.ensures)

pub returns-in-InOrder : goal.returns-in-InOrder
unfolding rule_break
returns-in-InOrder c = rw (← c.rule_at-rule.ensures, c.in-InOrder.is) (c.alone-in-InOrder.ensures ∙ ap alone c.in_order.ensures)

pub returns-in-TreeLevels : goal.returns-in-TreeLevels
unfolding rule_break
returns-in-TreeLevels c = rw (← c.rule_at-rule.ensures, c.in-TreeLevels.is) (c.alone-in-TreeLevels.ensures ∙ ap alone c.tree_level_rule.ensures)

pub returns-in-TreeParent : goal.returns-in-TreeParent
unfolding rule_break
returns-in-TreeParent c = rw (← c.rule_at-rule.ensures, c.in-TreeParent.is) c.tree_parent_break.ensures

pub returns-in-TargetIn : goal.returns-in-TargetIn
unfolding rule_break
returns-in-TargetIn c = rw (← c.rule_at-rule.ensures, c.in-TargetIn.is) c.target_break.ensures

pub returns-in-ParentIs : goal.returns-in-ParentIs
unfolding rule_break value_text_at
returns-in-ParentIs c = rw (← c.rule_at-rule.ensures, c.in-ParentIs.is, ← c.value_start.ensures, ← c.value_end.ensures, ← c.part-word.ensures) c.parent_type_break.ensures

pub returns-in-LeafIn : goal.returns-in-LeafIn
unfolding rule_break
returns-in-LeafIn c = rw (← c.rule_at-rule.ensures, c.in-LeafIn.is) c.leaf_break.ensures

pub returns-in-EachHas : goal.returns-in-EachHas
unfolding rule_break
returns-in-EachHas c = rw (← c.rule_at-rule.ensures, c.in-EachHas.is) c.target_break-in-EachHas.ensures
