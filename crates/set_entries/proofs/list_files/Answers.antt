-- `set_entries::list_files` meets its contract. The loop's invariant: the entries of the first i files are listed.
use mathlib.Core.Path.{refl}
use native.Mathlib.Omega.{arith}
use Rattle.set_entries.proofs.Laws.{listing-starts, listing-skips, listing-goes-on, listing-ends, when-few}
use Rattle.set_entries.proofs.list_files.Goals as goal
use Rattle.set_entries.proofs.list_files.Goals.{then-is_read, else-is_read}

pub loop-i-init : goal.loop-i-init
loop-i-init c = listing-starts _ _ _ _ _

pub overflow_mul-count : goal.overflow_mul-count
overflow_mul-count c = omega (arith, c.loop-i.invariant.few, c.loop-i-test.true)

pub overflow_add-base : goal.overflow_add-base
overflow_add-base c = omega (arith, c.loop-i.invariant.few, c.loop-i-test.true, c.requires.2, c.loop-i.invariant.work-long)

pub list_file-more-requires : goal.list_file-more-requires
list_file-more-requires c = (omega (arith, c.requires.1), omega (arith, c.loop-i.invariant.few, c.loop-i-test.true, c.requires.2, c.loop-i.invariant.work-long))

pub overflow_add-count : goal.overflow_add-count
overflow_add-count c = omega (arith, c.loop-i.invariant.few, c.loop-i-test.true, c.list_file-more.ensures.value.1)

pub loop-i-preserved : goal.loop-i-preserved
loop-i-preserved c = elim c.if-is_read.branch [
  | then-is_read w ↦ rw (w.count-is, w.work-is) (listing-goes-on _ _ _ c.loop-i.invariant (when-few _ _ c.requires.0 c.is_read.ensures) w.if-is_read.true refl (w.list_file-more.ensures.value, w.list_file-more.ensures.work_after))
  | else-is_read w ↦ rw (w.count-is, w.work-is) (listing-skips _ _ _ c.loop-i.invariant (when-few _ _ c.requires.0 c.is_read.ensures) w.if-is_read.false)
]

pub shape_of-work : goal.shape_of-work
shape_of-work c = c.loop-i.invariant.work-long

pub returns : goal.returns
returns c = let whole = listing-ends _ _ _ c.loop-i.invariant (omega (arith, c.loop-i-test.false)) in record { value = whole.0; work_after = whole.1 }
