-- `gate_boards::make_change` meets its contract: a workspace of its own is room enough.
-- Assumes nothing.
use Prim.Native.Nat.{ℕ}
use lib.ListN.{length-replicate}
use Rattle.gate_lists.specs.Which.{gate_called}
use borrow.Author.Rules.{rules}
use Rattle.parts.specs.Files.{new_file}
use Rattle.boards.specs.Board.{marks_on}
use Rattle.gate_boards.proofs.Laws.{own-make, own-output}
use Rattle.gate_boards.proofs.make_change.Goals as goal

pub returns-clause-value : goal.returns-clause-value
returns-clause-value g c = own-make (gate_called c.args.which) c.requires.room (length-replicate {A = ℕ} g.row.W 0) c.requires.marks c.args.bundle.now c.args.k (new_file c.args.present c.args.new.now) (marks_on c.args.board) (record { kinds-long = search rules; places-long = search rules; companions-long = search rules }) _ c.make_in.ensures.value

pub returns-clause-out_after : goal.returns-clause-out_after
returns-clause-out_after g c = own-output (gate_called c.args.which) c.requires.room (length-replicate {A = ℕ} g.row.W 0) c.requires.marks c.args.bundle.now c.args.k (new_file c.args.present c.args.new.now) (marks_on c.args.board) (record { kinds-long = search rules; places-long = search rules; companions-long = search rules }) c.args.out.now c.make_in.ensures.out_after
