-- `json_date::two_at` meets its contract: a digit is from 48 to 57, so that nothing wraps.
use native.Mathlib.Omega.{arith}
use mathlib.Core.Path.{refl}
use Rattle.json_date.specs.Date.{two_at}
use Rattle.json_date.proofs.Laws.{first-digit, second-digit}
use Rattle.json_date.proofs.two_at.Goals as goal

pub overflow_sub-result : goal.overflow_sub-result
overflow_sub-result c = omega (arith, (first-digit c.args.c.now c.args.i c.requires.1).from)

pub overflow_mul-result : goal.overflow_mul-result
overflow_mul-result c = omega (arith, (first-digit c.args.c.now c.args.i c.requires.1).to)

pub overflow_sub-result-2 : goal.overflow_sub-result-2
overflow_sub-result-2 c = omega (arith, (second-digit c.args.c.now c.args.i c.requires.1).from)

pub overflow_add-result-2 : goal.overflow_add-result-2
overflow_add-result-2 c = omega (arith, (first-digit c.args.c.now c.args.i c.requires.1).to, (second-digit c.args.c.now c.args.i c.requires.1).to)

pub returns : goal.returns
unfolding two_at
returns c = (refl, omega (arith, (first-digit c.args.c.now c.args.i c.requires.1).to, (second-digit c.args.c.now c.args.i c.requires.1).to))
