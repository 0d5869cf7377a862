-- `listed_numbers::hand_over` meets its contract: nothing, or the part of the workspace that the entries take.
use native.Mathlib.Omega.{arith}
use Rattle.listed_numbers.proofs.Handed.{none-handed, some-within, some-handed}
use Rattle.listed_numbers.proofs.hand_over.Goals as goal

pub returns-then-n-eq0 : goal.returns-then-n-eq0
returns-then-n-eq0 c = none-handed c.args.list.now c.args.work.now c.args.from c.args.n c.if-n-eq0.true

pub overflow_mul-n : goal.overflow_mul-n
overflow_mul-n c = omega (arith, some-within c.args.from c.args.n _ c.requires c.if-n-eq0.false)

pub overflow_add-from : goal.overflow_add-from
overflow_add-from c = omega (arith, some-within c.args.from c.args.n _ c.requires c.if-n-eq0.false)

pub offset_bounds-work-from : goal.offset_bounds-work-from
offset_bounds-work-from c = omega (arith, some-within c.args.from c.args.n _ c.requires c.if-n-eq0.false)

pub slice_bounds-put_start-count : goal.slice_bounds-put_start-count
slice_bounds-put_start-count c = omega (arith, some-within c.args.from c.args.n _ c.requires c.if-n-eq0.false)

pub slice_bounds-put_start-start : goal.slice_bounds-put_start-start
slice_bounds-put_start-start c = omega (arith, some-within c.args.from c.args.n _ c.requires c.if-n-eq0.false)

pub slice_bounds-put_start-end : goal.slice_bounds-put_start-end
slice_bounds-put_start-end c = omega (arith, some-within c.args.from c.args.n _ c.requires c.if-n-eq0.false)

pub returns : goal.returns
returns c = some-handed c.args.list.now c.args.work.now c.args.from c.args.n c.put_start.ensures
