-- `drawer_change::put_header` meets its contract.
use mathlib.Core.Path.{refl, ◌∙◌}
use native.Mathlib.Omega.{arith}
use Rattle.drawer_change.proofs.Header.{header-begins, header-turn, header-ends}
use Rattle.bundle_layout.specs.Bundle.{header_size}
use Rattle.drawer_change.proofs.put_header.Goals as goal

pub loop-i-init : goal.loop-i-init
loop-i-init c = (refl, header-begins _ _ 20 _ (omega (arith, c.requires)) c.put_word.ensures)

pub loop-i-preserved : goal.loop-i-preserved
loop-i-preserved c = (c.put_entry.auto.d ∙ c.loop-i.invariant.0, header-turn _ _ 20 _ _ (omega (arith, c.requires, c.put_word.auto.out, c.loop-i-test.true)) c.loop-i.invariant.1 c.number_in-offset.ensures.0 c.number_in-size.ensures.0 c.put_entry.ensures)

pub returns : goal.returns
unfolding header_size
returns c = header-ends _ _ 20 _ c.loop-i.i (omega arith) c.put_word.ensures c.loop-i.invariant.1
