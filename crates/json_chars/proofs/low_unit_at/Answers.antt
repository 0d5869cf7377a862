-- `json_chars::low_unit_at` meets its contract: two zeros and two digits more are their number.
use Rattle.std.proofs.Common.{arith, ap, ◌∙◌}
use Rattle.json_chars.specs.Step.{hex_digit, digit_at}
use Rattle.json_chars.proofs.Laws.{low-unit}
use Rattle.json_chars.proofs.low_unit_at.Goals as goal

pub returns : goal.returns
unfolding digit_at
returns c = (
  omega (arith, c.in_ok-a.ensures.1, c.in_ok-b.ensures.1),
  low-unit _ _ _ _ _ _ c.number_at.ensures.0 c.if-number_at-ne48.false c.number_at-else-number_at-ne48.ensures.0 c.if-number_at-ne48-2.false
      (c.in_ok-a.ensures.0 ∙ ap hex_digit c.number_at-2.ensures.0) c.in_ok-a.ensures.1 (c.in_ok-b.ensures.0 ∙ ap hex_digit c.number_at-3.ensures.0) c.in_ok-b.ensures.1,
)
