-- `join_bundle::join_bundle` meets its contract.
use mathlib.Core.Path.{sym, ◌∙◌}
use native.Mathlib.Omega.{arith}
use Rattle.join_bundle.proofs.Laws.{ends-refused, ends-long, ends-over, ends-written}
use Rattle.join_bundle.proofs.join_bundle.Goals as goal

pub returns-then-join_fault-ne0 : goal.returns-then-join_fault-ne0
returns-then-join_fault-ne0 c = let whole = ends-refused c.args.desk.now c.args.shared.now c.args.out.now c.join_fault.ensures c.if-join_fault-ne0.true in record { value = whole.0; out_after = whole.1 }

pub joined_length-length-requires : goal.joined_length-length-requires
joined_length-length-requires c = sym c.join_fault.ensures ∙ c.if-join_fault-ne0.false

pub returns-then-length-gt1048576 : goal.returns-then-length-gt1048576
returns-then-length-gt1048576 c = let whole = ends-long c.args.desk.now c.args.shared.now c.args.out.now c.join_fault.ensures c.if-join_fault-ne0.false c.joined_length-length.ensures c.if-length-gt1048576.true in record { value = whole.0; out_after = whole.1 }

pub returns-then-out-length : goal.returns-then-out-length
returns-then-out-length c = let whole = ends-over c.args.desk.now c.args.shared.now c.args.out.now c.join_fault.ensures c.if-join_fault-ne0.false c.joined_length-length.ensures c.if-length-gt1048576.false c.if-out-length.true in record { value = whole.0; out_after = whole.1 }

pub put_with_memory-requires : goal.put_with_memory-requires
put_with_memory-requires c = record { no_join_fault = sym c.join_fault.ensures ∙ c.if-join_fault-ne0.false; joined_fits = (omega (arith, c.joined_length-length.ensures, c.if-length-gt1048576.false), omega (arith, c.joined_length-length.ensures, c.if-out-length.false)) }

pub returns : goal.returns
returns c = let whole = ends-written c.args.desk.now c.args.shared.now c.args.out.now c.join_fault.ensures c.if-join_fault-ne0.false c.joined_length-length.ensures c.if-length-gt1048576.false c.if-out-length.false c.put_with_memory.ensures in record { value = whole.0; out_after = whole.1 }
