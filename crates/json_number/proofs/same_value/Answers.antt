-- `json_number::same_value` meets its contract, by cases on the two values.
use mathlib.Core.Path.{refl}
use Rattle.json_number.specs.Number.{same_value}
use Rattle.json_number.proofs.Scale.{same_of}
use Rattle.json_number.proofs.same_value.Goals as goal

pub returns-in-Fits-b : goal.returns-in-Fits-b
unfolding same_value
returns-in-Fits-b c = same_of c.in-Fits.is c.in-Fits-b.is c.same_parts.ensures

pub returns-in-Beyond-b : goal.returns-in-Beyond-b
unfolding same_value
returns-in-Beyond-b c = same_of c.in-Fits.is c.in-Beyond-b.is refl

pub returns-in-Beyond : goal.returns-in-Beyond
unfolding same_value
returns-in-Beyond c = same_of c.in-Beyond.is refl refl
