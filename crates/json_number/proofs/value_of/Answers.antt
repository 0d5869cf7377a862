-- `json_number::value_of` meets its contract: each test is one side of a limit.
use mathlib.Core.Path.{sym, ◌∙◌}
use native.Mathlib.Omega.{arith}
use Rattle.json_number.proofs.Limits.{limited-is, limited-low, limited-high, value-zero, value-below, value-above, value-c}
use Rattle.json_number.proofs.value_of.Goals as goal

pub returns-then-c-eq0 : goal.returns-then-c-eq0
returns-then-c-eq0 c = sym (value-zero _ _ _ _ _ _ c.if-c-eq0.true)

pub returns-then-c-gt-LARGEST : goal.returns-then-c-gt-LARGEST
returns-then-c-gt-LARGEST c = sym (value-c _ _ _ _ _ _ c.if-c-gt-LARGEST.true)

pub returns-then-zeros-fraction : goal.returns-then-zeros-fraction
returns-then-zeros-fraction c = sym (value-below _ _ _ _ _ _ c.if-c-eq0.false c.if-below.true ∙ limited-low _ _ _ _ (omega arith))

pub returns-then-room-size : goal.returns-then-room-size
returns-then-room-size c = sym (value-below _ _ _ _ _ _ c.if-c-eq0.false c.if-below.true ∙ limited-low _ _ _ _ (omega arith))

pub returns-then-room-size-gt30 : goal.returns-then-room-size-gt30
returns-then-room-size-gt30 c = sym (value-below _ _ _ _ _ _ c.if-c-eq0.false c.if-below.true ∙ limited-high _ _ _ _ (omega arith))

pub returns-then-below : goal.returns-then-below
returns-then-below c = sym (value-below _ _ _ _ _ _ c.if-c-eq0.false c.if-below.true ∙ limited-is _ _ _ _ c.if-c-gt-LARGEST.false (omega arith) c.if-room-size-gt30.false)

pub returns-then-fraction-size : goal.returns-then-fraction-size
returns-then-fraction-size c = sym (value-above _ _ _ _ _ _ c.if-c-eq0.false c.if-below.false ∙ limited-high _ _ _ _ (omega arith))

pub returns-then-room-zeros : goal.returns-then-room-zeros
returns-then-room-zeros c = sym (value-above _ _ _ _ _ _ c.if-c-eq0.false c.if-below.false ∙ limited-high _ _ _ _ (omega arith))

pub returns-then-room-zeros-gt30 : goal.returns-then-room-zeros-gt30
returns-then-room-zeros-gt30 c = sym (value-above _ _ _ _ _ _ c.if-c-eq0.false c.if-below.false ∙ limited-low _ _ _ _ (omega arith))

pub returns : goal.returns
returns c = sym (value-above _ _ _ _ _ _ c.if-c-eq0.false c.if-below.false ∙ limited-is _ _ _ _ c.if-c-gt-LARGEST.false (omega arith) (omega arith))
