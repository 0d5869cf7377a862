-- `json_number::is_raised` meets its contract: a product is a number exactly if the number divides and gives the factor.
use mathlib.Core.Path.{refl}
use native.Mathlib.Omega.{arith}
use Rattle.json_number.proofs.Scale.{ten-pos, raised-zero, raised-over, raised-not, raised_is}
use Rattle.json_number.proofs.is_raised.Goals as goal

pub returns-then-c-eq0 : goal.returns-then-c-eq0
returns-then-c-eq0 c = raised-zero _ _ _ _ refl c.if-c-eq0.true

pub returns-then-by-gt15 : goal.returns-then-by-gt15
returns-then-by-gt15 c = raised-over _ _ _ _ refl c.if-c-eq0.false c.requires c.if-by-gt15.true

pub nonzero_rem-d : goal.nonzero_rem-d
nonzero_rem-d c = omega (arith, ten-pos _ c.ten_to-ten.ensures)

pub returns-then-d-ten-ne0 : goal.returns-then-d-ten-ne0
returns-then-d-ten-ne0 c = raised-not _ _ _ _ c.ten_to-ten.ensures c.if-d-ten-ne0.true

pub nonzero_div-result : goal.nonzero_div-result
nonzero_div-result c = omega (arith, ten-pos _ c.ten_to-ten.ensures)

pub returns : goal.returns
returns c = raised_is _ _ _ _ c.ten_to-ten.ensures c.if-d-ten-ne0.false
