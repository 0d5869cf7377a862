-- `entries::put_entry` meets its contract.
use Rattle.std.proofs.Common.{◌+◌, ◌-◌, length, set, arith, length-set}
use Rattle.entries.proofs.Flat.{entry-stored}
use Rattle.entries.proofs.put_entry.Reads as reads
use Rattle.entries.proofs.put_entry.Lts as lts
use Rattle.entries.proofs.put_entry.Goals as goal

-- src/lib.rt:96:5
pub bounds-work-at-2 : goal.bounds-work-at-2
bounds-work-at-2 c = omega (arith, length-set c.args.work.now c.args.at c.args.e.start)

-- src/lib.rt:97:5
pub bounds-work-at-3 : goal.bounds-work-at-3
bounds-work-at-3 c = omega (arith, length-set c.args.work.now c.args.at c.args.e.start, length-set (set c.args.work.now c.args.at c.args.e.start) (c.args.at + 1) c.args.e.length)

-- src/lib.rt:98:5
pub bounds-work-at-4 : goal.bounds-work-at-4
bounds-work-at-4 c = omega (arith, length-set c.args.work.now c.args.at c.args.e.start, length-set (set c.args.work.now c.args.at c.args.e.start) (c.args.at + 1) c.args.e.length, length-set (set (set c.args.work.now c.args.at c.args.e.start) (c.args.at + 1) c.args.e.length) (c.args.at + 2) c.args.e.sum)

-- src/lib.rt:91:1
pub returns : goal.returns
returns c = entry-stored _ _ _ (omega arith)
