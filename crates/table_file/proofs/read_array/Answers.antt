-- `table_file::read_array` meets its contract: what stands behind the opening bracket decides; anything but an array is judged.
use native.Mathlib.Omega.{arith}
use Rattle.json_bytes.specs.Reads.{within}
use Rattle.table_file.specs.Table.{names_record, companion_of}
use Rattle.table_file.proofs.Laws.{first_more, first_ends, array-other, array-more, array-ends, array-neither}
use Rattle.table_file.proofs.read_array.Goals as goal

pub returns-then-byte_at-ne91 : goal.returns-then-byte_at-ne91
returns-then-byte_at-ne91 c = array-other _ _ _ _ _ c.byte_at.ensures c.if-byte_at-ne91.true _ _ c.not_object_at.ensures c.single_of.ensures

pub read_hinted-requires : goal.read_hinted-requires
read_hinted-requires c = omega (arith, first_more _ _ _ c.first_in.ensures _ c.in-More.is)

pub overflow_add-last : goal.overflow_add-last
overflow_add-last c = omega (arith, first_ends _ _ _ c.first_in.ensures _ c.in-Ends.is)

pub returns-in-More : goal.returns-in-More
returns-in-More c = array-more _ _ _ _ _ c.byte_at.ensures c.if-byte_at-ne91.false _ c.first_in.ensures _ _ c.in-More.is c.read_hinted.ensures

pub returns-in-Ends : goal.returns-in-Ends
returns-in-Ends c = array-ends _ _ _ _ _ c.byte_at.ensures c.if-byte_at-ne91.false _ c.first_in.ensures _ _ c.in-Ends.is c.end_of_file.ensures

pub returns-in-Neither : goal.returns-in-Neither
unfolding companion_of names_record within
returns-in-Neither c = array-neither _ _ _ _ _ c.byte_at.ensures c.if-byte_at-ne91.false _ c.first_in.ensures _ c.in-Neither.is
