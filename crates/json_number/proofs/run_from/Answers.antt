-- `json_number::run_from` meets its contract: the digits from here end where all of them do, and what is carried goes on.
use mathlib.Core.Path.{refl, sym, ◌∙◌}
use borrow.Author.Rules.{rules}
use Rattle.json_bytes.specs.Reads.{byte_at}
use Rattle.json_bytes.proofs.Laws.{run_more, run-stops, run_ends}
use Rattle.json_number.specs.Number.{is_digit}
use Rattle.json_number.proofs.Digits.{digit-range, formed-stops, formed-ends, goes_on, goes-ends, zeros-bound}
use Rattle.json_number.proofs.run_from.Goals as goal

pub loop-i-init : goal.loop-i-init
loop-i-init c = (search rules, refl, λ x h. (x, h, refl))

pub joined-value-requires : goal.joined-value-requires
joined-value-requires c = digit-range _ (sym c.is_digit.ensures ∙ c.if-is_digit.true)

pub loop-i-preserved : goal.loop-i-preserved
loop-i-preserved c = (
  zeros-bound (byte_at c.args.s.now c.loop-i.i) c.loop-i.kept _ _ _ c.zeros_behind-zeros.ensures c.loop-i.invariant.0,
  sym (run_more is_digit _ _ c.loop-i-test.true (sym c.is_digit.ensures ∙ c.if-is_digit.true)) ∙ c.loop-i.invariant.1,
  goes_on c.args.s.now c.args.at _ _ _ c.loop-i.i c.loop-i.invariant.2 c.loop-i-test.true (sym c.is_digit.ensures ∙ c.if-is_digit.true) c.joined-value.ensures c.zeros_behind-zeros.ensures c.kept_behind-kept.ensures,
)

pub returns-else-is_digit : goal.returns-else-is_digit
returns-else-is_digit c = (
  sym (run-stops is_digit _ _ c.loop-i-test.true (sym c.is_digit.ensures ∙ c.if-is_digit.false)) ∙ c.loop-i.invariant.1,
  c.loop-i.invariant.0,
  goes-ends c.args.s.now c.args.at _ _ _ c.loop-i.i c.loop-i.invariant.2 (λ y. formed-stops c.args.s.now c.loop-i.i y c.loop-i-test.true (sym c.is_digit.ensures ∙ c.if-is_digit.false)),
)

pub returns : goal.returns
returns c = (
  sym (run_ends is_digit _ _ c.loop-i-test.false) ∙ c.loop-i.invariant.1,
  c.loop-i.invariant.0,
  goes-ends c.args.s.now c.args.at _ _ _ c.loop-i.i c.loop-i.invariant.2 (λ y. formed-ends c.args.s.now c.loop-i.i y c.loop-i-test.false),
)
