-- `entries::list_ordered` meets its contract.
use Rattle.std.proofs.Common.{◌-◌, refl, arith}
use Rattle.entries.proofs.Laws.{ordered-listed}
use Rattle.entries.proofs.list_ordered.Reads as reads
use Rattle.entries.proofs.list_ordered.Lts as lts
use Rattle.entries.proofs.put_entries.Reads as put-entries-reads
use Rattle.entries.proofs.sum_alone.Reads as sum-alone-reads
use Rattle.key_order.proofs.key_order.Reads as key-order-reads
use Rattle.entries.proofs.list_ordered.Goals as goal

-- src/lib.rt:141:1
pub returns : goal.returns
returns c = ordered-listed c.args.s.now c.args.work.now c.args.from c.args.to c.args.width c.args.k c.args.at (omega arith) (omega arith) c.args.sums.now c.args.order.now c.args.scratch.now c.sum_alone-key.ensures refl c.key_order.ensures.2 c.requires.4 c.put_entries.ensures
