-- `json_number::digits_end` meets its contract: the digits from here end where all of them do.
use mathlib.Core.Path.{refl, sym, ◌∙◌}
use Rattle.json_bytes.proofs.Laws.{run_more, run-stops, run_ends}
use Rattle.json_number.specs.Number.{is_digit}
use Rattle.json_number.proofs.digits_end.Goals as goal

pub loop-j-init : goal.loop-j-init
loop-j-init c = refl

pub loop-j-preserved : goal.loop-j-preserved
loop-j-preserved c = c.loop-j.invariant ∙ run_more is_digit _ _ c.loop-j-test.true (sym c.is_digit.ensures ∙ c.if-is_digit.true)

pub returns-else-is_digit : goal.returns-else-is_digit
returns-else-is_digit c = sym (c.loop-j.invariant ∙ run-stops is_digit _ _ c.loop-j-test.true (sym c.is_digit.ensures ∙ c.if-is_digit.false))

pub returns : goal.returns
returns c = sym (c.loop-j.invariant ∙ run_ends is_digit _ _ c.loop-j-test.false)
