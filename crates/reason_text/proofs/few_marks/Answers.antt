-- `reason_text::few_marks` meets its contract.
use native.Mathlib.Omega.{arith}
use Rattle.reason_text.proofs.Whole.{marks-few}
use Rattle.reason_text.proofs.few_marks.Goals as goal

pub returns : goal.returns
returns c = (c.mark_count.ensures, omega (arith, c.mark_count.ensures, marks-few c.args.which))
