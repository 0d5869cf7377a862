-- `gate_plain::judge_plain` meets its contract: refused, or every mark.
use Prim.Native.Nat.{ℕ, ◌-◌}
use mathlib.Core.Path.{sym}
use lib.ListN.{length-replicate}
use Rattle.mark_numbers.proofs.Laws.{long-lists}
use Rattle.gate_plain.proofs.Laws.{own-cells, refused-verdict, plain-verdict}
use Rattle.gate_plain.proofs.judge_plain.Goals as goal

pub returns-then-refusal-ne0 : goal.returns-then-refusal-ne0
returns-then-refusal-ne0 c = refused-verdict _ c.bundle_fault-refusal.ensures c.if-refusal-ne0.true c.fresh.ensures

pub slice_bounds-put_schedule-end : goal.slice_bounds-put_schedule-end
slice_bounds-put_schedule-end c = sym (length-replicate {A = ℕ} 524288 0)

pub slice_bounds-put_schedule-end-2 : goal.slice_bounds-put_schedule-end-2
slice_bounds-put_schedule-end-2 c = sym (length-replicate {A = ℕ} 524288 0)

pub slice_bounds-put_schedule-end-3 : goal.slice_bounds-put_schedule-end-3
slice_bounds-put_schedule-end-3 c = sym (length-replicate {A = ℕ} 81 2)

pub slice_bounds-put_schedule-end-4 : goal.slice_bounds-put_schedule-end-4
slice_bounds-put_schedule-end-4 c = sym (length-replicate {A = ℕ} 81 0)

pub slice_bounds-put_schedule-end-5 : goal.slice_bounds-put_schedule-end-5
slice_bounds-put_schedule-end-5 c = sym (length-replicate {A = ℕ} 81 0)

pub put_schedule-requires : goal.put_schedule-requires
put_schedule-requires c = (
  own-cells (length-replicate {A = ℕ} 524288 0),
  own-cells (length-replicate {A = ℕ} 524288 0),
  long-lists 81 _ (record { kinds-long = length-replicate {A = ℕ} 81 2; places-long = length-replicate {A = ℕ} 81 0; companions-long = length-replicate {A = ℕ} 81 0 }),
)

pub returns : goal.returns
returns c = plain-verdict _ c.bundle_fault-refusal.ensures c.if-refusal-ne0.false c.put_schedule.ensures
