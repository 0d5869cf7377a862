-- `join_bundle::joined_length` meets its contract.
use native.Mathlib.Omega.{arith}
use Rattle.join_bundle.proofs.Laws.{desk-small, part_small, summed}
use Rattle.join_bundle.proofs.joined_length.Goals as goal

pub overflow_add-result-2 : goal.overflow_add-result-2
overflow_add-result-2 c = omega (arith, desk-small c.args.desk.now c.args.shared.now c.requires, part_small c.args.desk.now c.args.shared.now c.requires 6 (omega arith) c.part_at-six.ensures, part_small c.args.desk.now c.args.shared.now c.requires 7 (omega arith) c.part_at-seven.ensures, part_small c.args.desk.now c.args.shared.now c.requires 8 (omega arith) c.part_at-eight.ensures)

pub overflow_add-result-3 : goal.overflow_add-result-3
overflow_add-result-3 c = omega (arith, desk-small c.args.desk.now c.args.shared.now c.requires, part_small c.args.desk.now c.args.shared.now c.requires 6 (omega arith) c.part_at-six.ensures, part_small c.args.desk.now c.args.shared.now c.requires 7 (omega arith) c.part_at-seven.ensures, part_small c.args.desk.now c.args.shared.now c.requires 8 (omega arith) c.part_at-eight.ensures)

pub returns : goal.returns
returns c = summed c.args.desk.now c.args.shared.now c.requires c.part_at-six.ensures c.part_at-seven.ensures c.part_at-eight.ensures
