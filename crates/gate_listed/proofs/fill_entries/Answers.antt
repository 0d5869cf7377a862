-- `gate_listed::fill_entries` meets its contract: each turn puts one entry.
use Rattle.std.proofs.Common.{sym, refl, add-one, arith}
use Rattle.entries.specs.Flat.{entry_in}
use Rattle.gate_listed.proofs.Filled.{filled_none, filled_next}
use Rattle.gate_listed.proofs.fill_entries.Goals as goal

pub loop-i-init : goal.loop-i-init
loop-i-init c = (omega arith, omega arith, refl, sym (filled_none c.args.flat.now c.args.from c.args.list.now))

pub loop-i-preserved : goal.loop-i-preserved
unfolding entry_in
loop-i-preserved c = (
  omega arith,
  omega arith,
  refl,
  rw (c.loop-i.invariant.3, c.loop-i.invariant.1, add-one c.loop-i.i) (filled_next c.args.flat.now c.args.from c.args.list.now c.loop-i.i (omega arith)),
)
