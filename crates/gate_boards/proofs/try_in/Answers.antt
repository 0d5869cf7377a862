-- `gate_boards::try_in` meets its contract: its lists are those of the board.
-- Assumes nothing.
use Rattle.gate_boards.proofs.Laws.{verdict-is}
use Rattle.gate_boards.proofs.try_in.Goals as goal

pub returns-clause-value : goal.returns-clause-value
returns-clause-value g c = verdict-is _ c.try_lists-made.ensures.value c.try_lists-made.ensures.board_after
