-- `key_lookup::Index::place_of` meets its contract: the turns that are left end where the whole does.
use Prim.Native.Nat.{◌-◌}
use mathlib.Core.Path.{refl, sym, ◌∙◌}
use Rattle.number_search.proofs.Laws.{starts, ends, goes_on, goes_back}
use Rattle.key_lookup.proofs.Index.place_of.Goals as goal

pub loop-lo-init : goal.loop-lo-init
loop-lo-init c = starts _ _

pub loop-lo-preserved-then-is_before : goal.loop-lo-preserved-then-is_before
loop-lo-preserved-then-is_before c = goes_on _ _ _ _ c.loop-lo.invariant c.loop-lo-test.true _ refl (sym c.is_before.ensures ∙ c.if-is_before.true)

pub loop-lo-preserved : goal.loop-lo-preserved
loop-lo-preserved c = goes_back _ _ _ _ c.loop-lo.invariant c.loop-lo-test.true _ refl (sym c.is_before.ensures ∙ c.if-is_before.false)

pub returns : goal.returns
returns c = ends _ _ _ _ c.loop-lo.invariant c.loop-lo-test.false
