-- `json_chars::step_at` meets its contract: the tests that led to each answer decide the definition.
use Rattle.std.proofs.Common.{◌∙◌}
use borrow.Author.Tests.{ne_eqb, lt-ltb, le-ltb}
use Rattle.json_chars.specs.Step.{step_at}
use Rattle.json_chars.proofs.step_at.Goals as goal

pub returns-then-b-lt128 : goal.returns-then-b-lt128
unfolding step_at
returns-then-b-lt128 c = rw (← c.number_at-b.ensures.0, le-ltb _ 32 c.if-b-lt32.false, ne_eqb _ 34 c.if-b-eq34.false, ne_eqb _ 92 c.if-b-eq92.false, lt-ltb _ 128 c.if-b-lt128.true)

pub returns : goal.returns
unfolding step_at
returns c = rw (← c.number_at-b.ensures.0, le-ltb _ 32 c.if-b-lt32.false, ne_eqb _ 34 c.if-b-eq34.false, ne_eqb _ 92 c.if-b-eq92.false, le-ltb _ 128 c.if-b-lt128.false) (c.rare_at-2.ensures ∙ rw (ne_eqb _ 92 c.if-b-eq92.false))
