-- `rules::unordered_break` meets its contract: both ways answer the rule.
use Prim.Native.Nat.{ℕ}
use mathlib.Core.Path.{sym, ap, ◌∙◌}
use native.Mathlib.Omega.{arith}
use lib.ListN.{length-replicate}
use lib.Seq.{length-take-le}
use Rattle.rules.specs.Judge.{of_key}
use Rattle.rules.proofs.unordered_break.Goals as goal

pub returns-then-records-gt4096 : goal.returns-then-records-gt4096
returns-then-records-gt4096 c = c.of_key.ensures ∙ ap of_key c.key_rule.ensures

pub slice_bounds-key_rule_in-end : goal.slice_bounds-key_rule_in-end
slice_bounds-key_rule_in-end c = sym (length-take-le _ _ (omega (arith, length-replicate {A = ℕ} 4096 0)))

pub slice_bounds-key_rule_in-end-2 : goal.slice_bounds-key_rule_in-end-2
slice_bounds-key_rule_in-end-2 c = sym (length-take-le _ _ (omega (arith, length-replicate {A = ℕ} 4096 0)))

pub slice_bounds-key_rule_in-end-3 : goal.slice_bounds-key_rule_in-end-3
slice_bounds-key_rule_in-end-3 c = sym (length-take-le _ _ (omega (arith, length-replicate {A = ℕ} 4096 0)))

pub returns : goal.returns
returns c = c.of_key-2.ensures ∙ ap of_key c.key_rule_in.ensures
