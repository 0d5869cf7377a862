-- `output::put_number` calls itself for a tenth of the number.
use Rattle.output.proofs.+put_number.Given as goal

abbrev pub decreases-put_number : goal.decreases-put_number
decreases-put_number l = l.x
