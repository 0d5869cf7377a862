-- `json_date::decoded_date` meets its contract: the characters collected and those left are those of the string.
use mathlib.Core.Path.{refl, sym, ap, ◌∙◌}
use mathlib.Core.Logic.{⊎_elim}
use native.Mathlib.Omega.{arith}
use lib.Seq.{length-take-le}
use lib.Dec.{lit<}
use Rattle.json_bytes.proofs.Laws.{inside}
use Rattle.json_date.specs.Date.{date_of}
use Rattle.json_date.proofs.Collect.{none-there, collect-start, collect-goes-on, collect-more, collect-over, collect-close, collect-bad}
use Rattle.json_date.proofs.decoded_date.Goals as goal

pub returns-then-byte_at-ne34 : goal.returns-then-byte_at-ne34
returns-then-byte_at-ne34 c = sym (none-there _ _ (λ e. c.if-byte_at-ne34.true (c.byte_at.ensures ∙ e)))

pub overflow_add-i : goal.overflow_add-i
overflow_add-i c = omega (arith, inside c.args.s.now _ 34 (sym c.byte_at.ensures ∙ c.if-byte_at-ne34.false) (lit< tt))

pub loop-code-init : goal.loop-code-init
loop-code-init c = collect-start _ _ _ refl (sym c.byte_at.ensures ∙ c.if-byte_at-ne34.false)

pub returns-then-n-ge10 : goal.returns-then-n-ge10
returns-then-n-ge10 c = sym (collect-over _ _ _ _ _ c.loop-code.invariant _ _ (sym c.step_at.ensures ∙ c.in-Char.is) c.if-n-ge10.true)

pub loop-code-smaller : goal.loop-code-smaller
loop-code-smaller c = omega (arith, collect-goes-on _ _ _ _ _ c.loop-code.invariant _ _ (sym c.step_at.ensures ∙ c.in-Char.is))

pub loop-code-preserved : goal.loop-code-preserved
loop-code-preserved c = collect-more _ _ _ _ _ c.loop-code.invariant _ _ (sym c.step_at.ensures ∙ c.in-Char.is) (omega arith)

pub slice_bounds-date_of-end : goal.slice_bounds-date_of-end
slice_bounds-date_of-end c = sym (length-take-le _ c.loop-code.c (omega (arith, c.loop-code.invariant.size)))

pub returns-in-Close : goal.returns-in-Close
returns-in-Close c =
    c.date_of.ensures ∙ ap date_of
    (⊎_elim
    (λ e. collect-close _ _ _ _ _ c.loop-code.invariant (sym c.step_at.ensures ∙ e))
    (λ (kind, place, e). collect-bad _ _ _ _ _ c.loop-code.invariant kind place (sym c.step_at.ensures ∙ e))
    c.in-Close.is)
