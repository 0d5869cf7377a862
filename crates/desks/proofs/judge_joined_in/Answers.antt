-- `desks::judge_joined_in` meets its contract: the lists of its own are fresh marks.
-- Assumes nothing.
use Prim.Native.Nat.{ℕ}
use mathlib.Core.Path.{sym}
use lib.ListN.{length-replicate}
use Rattle.mark_numbers.specs.Marks.{list_of, marks_from, fresh_marks}
use Rattle.desks.proofs.Laws.{desk-is}
use Rattle.desks.proofs.judge_joined_in.Goals as goal

pub slice_bounds-judge_joined_lists-end : goal.slice_bounds-judge_joined_lists-end
slice_bounds-judge_joined_lists-end c = sym (length-replicate {A = ℕ} 81 2)

pub slice_bounds-judge_joined_lists-end-2 : goal.slice_bounds-judge_joined_lists-end-2
slice_bounds-judge_joined_lists-end-2 c = sym (length-replicate {A = ℕ} 81 0)

pub slice_bounds-judge_joined_lists-end-3 : goal.slice_bounds-judge_joined_lists-end-3
slice_bounds-judge_joined_lists-end-3 c = sym (length-replicate {A = ℕ} 81 0)

pub returns : goal.returns
unfolding fresh_marks marks_from list_of
returns c = let whole = desk-is _ (c.judge_joined_lists-refusal.ensures.value, (c.judge_joined_lists-refusal.ensures.board_after, c.judge_joined_lists-refusal.ensures.work_after)) in record { value = whole.0; work_after = whole.1 }
