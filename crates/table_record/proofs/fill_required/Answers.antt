-- `table_record::fill_required` meets its contract: at the loop's head the numbers of the fields passed are put down.
use Rattle.table_record.proofs.Required.{filling-starts, filling-put, filling-passed, filling-full, filling-ends}
use Rattle.table_record.proofs.fill_required.Goals as goal
use Rattle.table_record.proofs.fill_required.Goals.{then-not-is_nullable+then-n-required, then-not-is_nullable+else-n-required, else-not-is_nullable}

pub loop-k-init : goal.loop-k-init
loop-k-init c = filling-starts _ _ _

pub loop-k-preserved : goal.loop-k-preserved
loop-k-preserved c =
    let so = c.loop-k.invariant in
    let l = c.loop-k-test.true in
    let is = c.is_nullable.ensures in
    elim c.if-not-is_nullable.branch [
      | then-not-is_nullable+then-n-required w ↦ filling-put _ _ _ _ _ _ _ so l _ is _ _ w.if-not-is_nullable.true w.if-n-required.true w.required-is w.n-is
      | then-not-is_nullable+else-n-required w ↦ filling-full _ _ _ _ _ _ _ so _ _ w.if-n-required.false w.required-is w.n-is
      | else-not-is_nullable w ↦ filling-passed _ _ _ _ _ _ _ so l _ is _ _ w.if-not-is_nullable.false w.required-is w.n-is
    ]

pub shape_of-required : goal.shape_of-required
shape_of-required c = c.loop-k.invariant.long

pub returns : goal.returns
returns c = record { required_after = filling-ends _ _ _ _ _ _ _ c.loop-k.invariant c.loop-k-test.false; required_unchanged = c.loop-k.invariant.behind; upper_bound = c.loop-k.invariant.inside }
