-- `ordered_key::is_apart` meets its contract: what is left of the search at the loop's head answers as the whole does.
use Prim.Native.Nat.{◌-◌}
use mathlib.Core.Path.{sym, ◌∙◌}
use Rattle.rule_key.specs.Key.{same_key}
use Rattle.ordered_key.proofs.None.{none-goes-on, one-hits, none-ends}
use Rattle.ordered_key.proofs.Grouped.{long-group, apart-starts}
use Rattle.ordered_key.proofs.is_apart.Goals as goal

pub returns-then-i-from-gt8 : goal.returns-then-i-from-gt8
returns-then-i-from-gt8 c = long-group _ _ _ c.if-i-from-gt8.true

pub loop-j-init : goal.loop-j-init
loop-j-init c = apart-starts _ _ _ c.if-i-from-gt8.false

pub returns-then-same_key : goal.returns-then-same_key
returns-then-same_key c = one-hits _ _ _ _ c.loop-j.invariant c.loop-j-test.true (sym c.same_key.ensures ∙ c.if-same_key.true)

pub loop-j-preserved : goal.loop-j-preserved
loop-j-preserved c = none-goes-on _ _ _ _ c.loop-j.invariant c.loop-j-test.true (sym c.same_key.ensures ∙ c.if-same_key.false)

pub returns : goal.returns
returns c = none-ends _ _ _ _ c.loop-j.invariant c.loop-j-test.false
