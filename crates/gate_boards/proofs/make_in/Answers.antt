-- `gate_boards::make_in` meets its contract: its lists are those of the board.
-- Assumes nothing.
use Rattle.gate_boards.proofs.Laws.{verdict-is}
use Rattle.gate_boards.proofs.make_in.Goals as goal

pub returns-clause-value : goal.returns-clause-value
returns-clause-value g c = verdict-is _ c.make_lists-made.ensures.value c.make_lists-made.ensures.board_after
