-- `json_same::same_text` meets its contract: comparing what is left of the two strings answers as comparing the whole of them.
use Prim.Native.Nat.{◌+◌}
use mathlib.Core.Path.{sym, ◌∙◌}
use native.Mathlib.Omega.{arith}
use Rattle.json_chars.specs.Chars.{chars_at}
use Rattle.json_same.specs.Same.{same_as}
use Rattle.json_same.proofs.Walk.{Both, goes_on, end-by-tag, both-start, both_end, both-close, both-longer, both-more, both-differ, both-on, both-part, both-alike}
use Rattle.json_same.proofs.same_text.Goals as goal
use Rattle.json_same.proofs.same_text.Goals.{After-alike_at-m, In-Some}

pub loop-case-init : goal.loop-case-init
loop-case-init c = both-start _ _ _ _ _ _ _ c.beginning_of-x.ensures c.beginning_of-y.ensures

pub alike_at-m-requires : goal.alike_at-m-requires
alike_at-m-requires c = (c.loop-case.invariant.against.left.inside, c.loop-case.invariant.left.inside)

-- behind the bytes that are alike
passed : (c : After-alike_at-m) → Both c.args.case c.args.a.now (c.loop-case.x + c.alike_at-m.result) c.args.b.now (c.loop-case.y + c.alike_at-m.result) (same_as c.args.case (chars_at c.args.a.now c.args.i) (chars_at c.args.b.now c.args.j))
passed c = both-alike _ _ _ _ _ _ c.loop-case.invariant _ c.alike_at-m.ensures

pub overflow_add-x : goal.overflow_add-x
overflow_add-x c = omega (arith, c.alike_at-m.ensures.here)

pub overflow_add-y : goal.overflow_add-y
overflow_add-y c = omega (arith, c.alike_at-m.ensures.there)

pub returns-then-byte_at-eq34 : goal.returns-then-byte_at-eq34
returns-then-byte_at-eq34 c = c.is_end.ensures ∙
    both-close _ _ _ _ _ _ (passed (goal.at.returns-then-byte_at-eq34 c).After-alike_at-m) (sym c.byte_at.ensures ∙ c.if-byte_at-eq34.true) _ c.step_at.ensures

pub slice_bounds-run_of-count : goal.slice_bounds-run_of-count
slice_bounds-run_of-count c = omega (arith, (passed (goal.at.slice_bounds-run_of-count c).After-alike_at-m).against.left.inside)

pub slice_bounds-run_of-start : goal.slice_bounds-run_of-start
slice_bounds-run_of-start c = omega (arith, (passed (goal.at.slice_bounds-run_of-start c).After-alike_at-m).against.left.inside)

pub slice_bounds-run_of-count-in-loop-case : goal.slice_bounds-run_of-count-in-loop-case
slice_bounds-run_of-count-in-loop-case c = omega (arith, (passed (goal.at.slice_bounds-run_of-count-in-loop-case c).After-alike_at-m).left.inside)

pub slice_bounds-run_of-start-in-loop-case : goal.slice_bounds-run_of-start-in-loop-case
slice_bounds-run_of-start-in-loop-case c = omega (arith, (passed (goal.at.slice_bounds-run_of-start-in-loop-case c).After-alike_at-m).left.inside)

pub returns-in_default : goal.returns-in_default
returns-in_default c = sym (both-part _ _ _ _ _ _ (passed (goal.at.returns-in_default c).After-alike_at-m) _ c.run_of.ensures c.in_default.is)

-- behind the run the same is left to compare
ran : (c : In-Some) → Both c.args.case c.args.a.now (c.loop-case.x + c.alike_at-m.result + c.in-Some.n) c.args.b.now (c.loop-case.y + c.alike_at-m.result + c.in-Some.n) (same_as c.args.case (chars_at c.args.a.now c.args.i) (chars_at c.args.b.now c.args.j))
ran c = both-on _ _ _ _ _ _ (both-alike _ _ _ _ _ _ c.loop-case.invariant _ c.alike_at-m.ensures) _ c.run_of.ensures _ c.in-Some.is

pub overflow_add-x-in-loop-case : goal.overflow_add-x-in-loop-case
overflow_add-x-in-loop-case c = omega (arith, (ran c).against.left.inside)

pub overflow_add-y-in-loop-case : goal.overflow_add-y-in-loop-case
overflow_add-y-in-loop-case c = omega (arith, (ran c).left.inside)

pub returns-in_default-step_at : goal.returns-in_default-step_at
returns-in_default-step_at c = c.is_end-in_default-step_at.ensures ∙
    both_end _ _ _ _ _ _ (ran (goal.at.returns-in_default-step_at c).In-Some) _ c.step_at-in-loop-case.ensures (end-by-tag _ c.in_default-step_at.not-Char) _ c.step_at-in_default-step_at.ensures

pub returns-in_default-step_at-2 : goal.returns-in_default-step_at-2
returns-in_default-step_at-2 c = sym (both-longer _ _ _ _ _ _ (ran (goal.at.returns-in_default-step_at-2 c).In-Some) _ _ (sym c.step_at-in-loop-case.ensures ∙ c.in-Char.is) _ c.step_at-in-loop-case-2.ensures (end-by-tag _ c.in_default-step_at-2.not-Char))

pub returns-then-cased : goal.returns-then-cased
returns-then-cased c = sym (both-differ _ _ _ _ _ _ (ran (goal.at.returns-then-cased c).In-Some) _ _ (sym c.step_at-in-loop-case.ensures ∙ c.in-Char.is) _ _ (sym c.step_at-in-loop-case-2.ensures ∙ c.in-Char-step_at.is)
    (λ e. c.if-cased.true (c.cased.ensures ∙ e ∙ sym c.cased-in-loop-case.ensures)))

pub loop-case-smaller : goal.loop-case-smaller
loop-case-smaller c = omega (arith, goes_on _ _ _ (ran (goal.at.loop-case-smaller c).In-Some).against.left _ _ (sym c.step_at-in-loop-case.ensures ∙ c.in-Char.is))

pub loop-case-preserved : goal.loop-case-preserved
loop-case-preserved c = both-more _ _ _ _ _ _ (ran (goal.at.loop-case-preserved c).In-Some) _ _ (sym c.step_at-in-loop-case.ensures ∙ c.in-Char.is) _ _ (sym c.step_at-in-loop-case-2.ensures ∙ c.in-Char-step_at.is)
    (sym c.cased.ensures ∙ c.if-cased.false ∙ c.cased-in-loop-case.ensures)
