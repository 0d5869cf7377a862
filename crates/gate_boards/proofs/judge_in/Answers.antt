-- `gate_boards::judge_in` meets its contract: its lists are those of a fresh board.
-- Assumes nothing.
use mathlib.Core.Path.{ap, ◌∙◌}
use lib.ListN.{length}
use Rattle.mark_numbers.specs.Marks.{Marks, fresh_marks}
use Rattle.boards.specs.Board.{marks_on}
use Rattle.gate_calls.specs.Lent.{judged_in}
use Rattle.gate_lists.specs.Which.{gate_called, made_of}
use Rattle.gate_boards.proofs.Laws.{verdict-is}
use Rattle.gate_boards.proofs.judge_in.Goals as goal

pub returns-clause-value : goal.returns-clause-value
returns-clause-value g c = let called = (λ (handed : Marks). judged_in (gate_called c.args.which) c.args.bundle.now (length c.args.work.now) handed) in
    let fresh = ap marks_on c.fresh-board.ensures in
    verdict-is (called (fresh_marks g.row.N)) (c.judge_lists-made.ensures.value ∙ ap (λ (m : Marks). made_of (called m)) fresh) (c.judge_lists-made.ensures.board_after ∙ ap (λ (m : Marks). (called m).marks) fresh)
