-- `output::put_number` meets its contract: it calls itself for a tenth of the number, which is its measure.
use Rattle.output.proofs.Puts.{number-last, number_more}
use Rattle.output.proofs.+put_number.Goals as goal

pub returns-then-x-lt10 : goal.returns-then-x-lt10
returns-then-x-lt10 t c = number-last _ _ c.if-x-lt10.true c.put_digit.ensures

pub returns : goal.returns
returns t c = number_more _ _ c.if-x-lt10.false c.put_number-next.ensures c.put_digit-2.ensures
