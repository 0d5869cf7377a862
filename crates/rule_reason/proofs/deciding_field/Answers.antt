-- `rule_reason::deciding_field` meets its contract: each arm is the line of its shape.
use Rattle.rule_reason.specs.Reason.{deciding_field}
use Rattle.rule_reason.proofs.deciding_field.Goals as goal

pub returns-in-KeyOf : goal.returns-in-KeyOf
unfolding deciding_field
returns-in-KeyOf c = rw (← c.rule_at-rule.ensures, c.in-KeyOf.is)

pub returns-in-OneOf : goal.returns-in-OneOf
unfolding deciding_field
returns-in-OneOf c = rw (← c.rule_at-rule.ensures, c.in-OneOf.is)

pub returns-in-NullUnless : goal.returns-in-NullUnless
unfolding deciding_field
returns-in-NullUnless c = rw (← c.rule_at-rule.ensures, c.in-NullUnless.is)

pub returns-in-GivenIf : goal.returns-in-GivenIf
unfolding deciding_field
returns-in-GivenIf c = rw (← c.rule_at-rule.ensures, c.in-GivenIf.is)

pub returns-in-GivenUnless : goal.returns-in-GivenUnless
unfolding deciding_field
returns-in-GivenUnless c = rw (← c.rule_at-rule.ensures, c.in-GivenUnless.is)

pub returns-in-NoneBelow : goal.returns-in-NoneBelow
unfolding deciding_field
returns-in-NoneBelow c = rw (← c.rule_at-rule.ensures, c.in-NoneBelow.is) c.first_below.ensures

pub returns-in-SomeAbove : goal.returns-in-SomeAbove
unfolding deciding_field
returns-in-SomeAbove c = rw (← c.rule_at-rule.ensures, c.in-SomeAbove.is)

pub returns-in-Together : goal.returns-in-Together
unfolding deciding_field
returns-in-Together c = rw (← c.rule_at-rule.ensures, c.in-Together.is) c.first_null.ensures

pub returns-in-LevelRun : goal.returns-in-LevelRun
unfolding deciding_field
returns-in-LevelRun c = rw (← c.rule_at-rule.ensures, c.in-LevelRun.is)

pub returns-in-ParentGiven : goal.returns-in-ParentGiven
unfolding deciding_field
returns-in-ParentGiven c = rw (← c.rule_at-rule.ensures, c.in-ParentGiven.is)

pub returns-in-AllGiven : goal.returns-in-AllGiven
unfolding deciding_field
returns-in-AllGiven c = rw (← c.rule_at-rule.ensures, c.in-AllGiven.is) c.first_null-in-AllGiven.ensures

pub returns-in-NoneGiven : goal.returns-in-NoneGiven
unfolding deciding_field
returns-in-NoneGiven c = rw (← c.rule_at-rule.ensures, c.in-NoneGiven.is) c.first_given.ensures

pub returns-in-InOrder : goal.returns-in-InOrder
unfolding deciding_field
returns-in-InOrder c = rw (← c.rule_at-rule.ensures, c.in-InOrder.is)

pub returns-in-TreeLevels : goal.returns-in-TreeLevels
unfolding deciding_field
returns-in-TreeLevels c = rw (← c.rule_at-rule.ensures, c.in-TreeLevels.is)

pub returns-in-TreeParent : goal.returns-in-TreeParent
unfolding deciding_field
returns-in-TreeParent c = rw (← c.rule_at-rule.ensures, c.in-TreeParent.is)

pub returns-in-TargetIn : goal.returns-in-TargetIn
unfolding deciding_field
returns-in-TargetIn c = rw (← c.rule_at-rule.ensures, c.in-TargetIn.is)

pub returns-in-ParentIs : goal.returns-in-ParentIs
unfolding deciding_field
returns-in-ParentIs c = rw (← c.rule_at-rule.ensures, c.in-ParentIs.is)

pub returns-in-LeafIn : goal.returns-in-LeafIn
unfolding deciding_field
returns-in-LeafIn c = rw (← c.rule_at-rule.ensures, c.in-LeafIn.is)

pub returns-in-EachHas : goal.returns-in-EachHas
unfolding deciding_field
returns-in-EachHas c = rw (← c.rule_at-rule.ensures, c.in-EachHas.is)
