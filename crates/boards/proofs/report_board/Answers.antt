-- `boards::report_board` meets its contract: a board has N marks, whose text fits the room of N marks.
use borrow.Author.Rules.{rules}
use Rattle.boards.specs.Board.{marks_on}
use Rattle.boards.proofs.Laws.{marks-written}
use Rattle.boards.proofs.report_board.Goals as goal

pub returns : goal.returns
returns g c = let whole = marks-written g.row.N c.requires c.args.refusal (marks_on c.args.board) c.args.out.now (record { kinds-long = search rules; places-long = search rules; companions-long = search rules }) (c.report.ensures.value, (c.report.ensures.out_after, c.report.ensures.upper_bound)) in record { value = whole.0; out_after = whole.1.0; upper_bound = whole.1.1 }
