-- `json_same::text_is` meets its contract: comparing what is left of the string with what is left of the word answers as
-- comparing the whole of them.
use Prim.Native.Nat.{◌+◌}
use mathlib.Core.Path.{refl, sym, ap, ◌∙◌}
use native.Mathlib.Omega.{arith}
use lib.ListN.{drop_of_length-le}
use Rattle.json_chars.specs.Chars.{chars_at}
use Rattle.json_same.specs.Same.{cased_as, same_as}
use Rattle.json_same.proofs.Walk.{Worded, begins, goes_on, end-by-tag, next-letter, word-ends, word_on, word-part, against-end, against-longer, against-more, against-differs}
use Rattle.json_same.proofs.text_is.Goals as goal
use Rattle.json_same.proofs.text_is.Goals.{In-Some}

pub loop-n-init : goal.loop-n-init
loop-n-init c = record { within_word = omega arith; against = record { cs = chars_at _ _; left = begins _ _ _ c.beginning_of-i.ensures; rest = refl } }

pub slice_bounds-run_of-count : goal.slice_bounds-run_of-count
slice_bounds-run_of-count c = omega (arith, c.loop-n.invariant.against.left.inside)

pub slice_bounds-run_of-start : goal.slice_bounds-run_of-start
slice_bounds-run_of-start c = omega (arith, c.loop-n.invariant.against.left.inside)

pub slice_bounds-run_of-count-in-loop-n : goal.slice_bounds-run_of-count-in-loop-n
slice_bounds-run_of-count-in-loop-n c = omega (arith, c.loop-n.invariant.within_word)

pub slice_bounds-run_of-start-in-loop-n : goal.slice_bounds-run_of-start-in-loop-n
slice_bounds-run_of-start-in-loop-n c = omega (arith, c.loop-n.invariant.within_word)

pub returns-in_default : goal.returns-in_default
returns-in_default c = sym (word-part _ _ _ _ _ _ c.loop-n.invariant _ c.run_of.ensures c.in_default.is)

-- behind the run the same is left to compare
ran : (c : In-Some) → Worded c.args.case c.args.s.now (c.loop-n.i + c.in-Some.n) c.args.word.now (c.loop-n.k + c.in-Some.n) (same_as c.args.case (chars_at c.args.s.now c.args.at) c.args.word.now)
ran c = word_on _ _ _ _ _ _ c.loop-n.invariant _ c.run_of.ensures _ c.in-Some.is

pub overflow_add-i : goal.overflow_add-i
overflow_add-i c = omega (arith, (ran c).against.left.inside)

pub overflow_add-k : goal.overflow_add-k
overflow_add-k c = omega (arith, (ran c).within_word)

pub returns-in_default-step_at : goal.returns-in_default-step_at
returns-in_default-step_at c = sym (against-end _ _ _ _ _ (ran (goal.at.returns-in_default-step_at c).In-Some).against _ c.step_at.ensures (end-by-tag _ c.in_default-step_at.not-Char) ∙ word-ends c.args.word.now (c.loop-n.k + c.in-Some.n) _)

pub returns-then-word-k : goal.returns-then-word-k
returns-then-word-k c = sym (against-longer _ _ _ _ _ (ran (goal.at.returns-then-word-k c).In-Some).against _ _ (sym c.step_at.ensures ∙ c.in-Char.is) (drop_of_length-le _ c.if-word-k.true))

pub returns-then-cased : goal.returns-then-cased
returns-then-cased c = sym (against-differs _ _ _ _ _ (ran (goal.at.returns-then-cased c).In-Some).against _ _ (sym c.step_at.ensures ∙ c.in-Char.is) _ _ (next-letter _ _ c.if-word-k.false)
    (λ e. c.if-cased.true (c.cased.ensures ∙ e ∙ sym (c.cased-in-loop-n.ensures ∙ ap (cased_as _) c.byte_at.ensures))))

pub overflow_add-k-in-loop-n : goal.overflow_add-k-in-loop-n
overflow_add-k-in-loop-n c = omega (arith, c.if-word-k.false)

pub loop-n-smaller : goal.loop-n-smaller
loop-n-smaller c = omega (arith, goes_on _ _ _ (ran (goal.at.loop-n-smaller c).In-Some).against.left _ _ (sym c.step_at.ensures ∙ c.in-Char.is))

pub loop-n-preserved : goal.loop-n-preserved
loop-n-preserved c = record {
  within_word = omega (arith, c.if-word-k.false);
  against = against-more _ _ _ _ _ (ran (goal.at.loop-n-preserved c).In-Some).against _ _ (sym c.step_at.ensures ∙ c.in-Char.is) _ _ (next-letter _ _ c.if-word-k.false) (sym c.cased.ensures ∙ c.if-cased.false ∙ c.cased-in-loop-n.ensures ∙ ap (cased_as _) c.byte_at.ensures);
}
