-- `entries::put_entries` meets its contract: after each turn the entries of the first i records are written.
use Rattle.std.proofs.Common.{◌-◌, take, drop, refl, ap, ◌∙◌, arith}
use Rattle.parts.specs.Part.{part_of}
use Rattle.rule_cells.specs.Cells.{table}
use Rattle.entries.specs.Entries.{entry_of}
use Rattle.entries.proofs.Flat.{list-starts, list-more, list-ends}
use Rattle.entries.proofs.Laws.{entry-there}
use Rattle.entries.proofs.put_entries.Goals as goal

pub loop-i-init : goal.loop-i-init
loop-i-init c = (list-starts _ _ _ _, refl)

pub slice_bounds-entry_of-end : goal.slice_bounds-entry_of-end
slice_bounds-entry_of-end c = omega (arith, c.loop-i.invariant.1)

pub put_entry-requires : goal.put_entry-requires
put_entry-requires c = omega (arith, c.loop-i.invariant.1, c.loop-i-test.true)

pub loop-i-preserved : goal.loop-i-preserved
loop-i-preserved c = let inv = c.loop-i.invariant in
    let e-is = entry-there c.args.s.now _ c.args.width c.args.k _ c.args.work.now c.args.at c.args.from c.args.to _ (omega arith) (omega arith) (omega arith) (ap (λ w. take (c.args.to - c.args.from) (drop c.args.from w)) inv.0.is) c.entry_of-e.ensures in (
      list-more _ _ _ _ inv.0 c.loop-i-test.true (omega arith) e-is refl c.put_entry.ensures,
      c.put_entry.auto.work ∙ inv.1,
    )

pub shape_of-work : goal.shape_of-work
shape_of-work c = c.loop-i.invariant.1

pub returns : goal.returns
returns c = list-ends (entry_of (table c.args.s.now (part_of c.args.work.now c.args.from c.args.to) c.args.width 0) c.args.k) c.args.work.now c.args.at c.args.order.now c.loop-i.invariant.0 (omega arith)
