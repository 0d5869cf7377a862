-- `json_number::same_parts` meets its contract: each test that failed decides the definition, and the last one is its answer.
use mathlib.Core.Path.{sym, ap, ◌∙◌}
use mathlib.Core.Bool.{Bool}
use Rattle.json_number.specs.Number.{same_sign}
use Rattle.json_number.proofs.Limits.{within-c}
use Rattle.json_number.proofs.Scale.{same-outside, same-outside-2, same-unequal, same-zero, same-signs}
use Rattle.json_number.proofs.same_parts.Goals as goal

pub returns-then-not-within_limits : goal.returns-then-not-within_limits
returns-then-not-within_limits c = sym (same-outside _ _ _ _ _ _ (sym c.within_limits.ensures ∙ c.if-not-within_limits.true))

pub returns-then-not-within_limits-2 : goal.returns-then-not-within_limits-2
returns-then-not-within_limits-2 c = sym (same-outside-2 _ _ _ _ _ _ (sym c.within_limits.ensures ∙ c.if-not-within_limits.false) (sym c.within_limits-2.ensures ∙ c.if-not-within_limits-2.true))

pub same_magnitude-requires : goal.same_magnitude-requires
same_magnitude-requires c = (within-c _ _ (sym c.within_limits.ensures ∙ c.if-not-within_limits.false), within-c _ _ (sym c.within_limits-2.ensures ∙ c.if-not-within_limits-2.false))

pub returns-then-not-same_magnitude : goal.returns-then-not-same_magnitude
returns-then-not-same_magnitude c = sym (same-unequal _ _ _ _ _ _ (sym c.within_limits.ensures ∙ c.if-not-within_limits.false) (sym c.within_limits-2.ensures ∙ c.if-not-within_limits-2.false) (sym c.same_magnitude.ensures ∙ c.if-not-same_magnitude.true))

pub returns-then-c-eq0 : goal.returns-then-c-eq0
returns-then-c-eq0 c = sym (same-zero _ _ _ _ _ _ (sym c.within_limits.ensures ∙ c.if-not-within_limits.false) (sym c.within_limits-2.ensures ∙ c.if-not-within_limits-2.false) (sym c.same_magnitude.ensures ∙ c.if-not-same_magnitude.false) c.if-c-eq0.true)

pub returns-then-m : goal.returns-then-m
returns-then-m c = sym (same-signs _ _ _ _ _ _ (sym c.within_limits.ensures ∙ c.if-not-within_limits.false) (sym c.within_limits-2.ensures ∙ c.if-not-within_limits-2.false) (sym c.same_magnitude.ensures ∙ c.if-not-same_magnitude.false) c.if-c-eq0.false ∙ ap (λ (m : Bool). same_sign m c.args.n) c.if-m.true)

pub returns : goal.returns
returns c = sym (same-signs _ _ _ _ _ _ (sym c.within_limits.ensures ∙ c.if-not-within_limits.false) (sym c.within_limits-2.ensures ∙ c.if-not-within_limits-2.false) (sym c.same_magnitude.ensures ∙ c.if-not-same_magnitude.false) c.if-c-eq0.false ∙ ap (λ (m : Bool). same_sign m c.args.n) c.if-m.false)
