-- `json_text::read_text` meets its contract: what is left of the string at the loop's head, and behind the words from there on,
-- reads as the whole does.
use Rattle.std.proofs.Common.{◌≡◌, sym, ◌∙◌, arith, lit<}
use Rattle.json_bytes.specs.Reads.{byte_at}
use Rattle.json_bytes.proofs.Laws.{inside}
use Rattle.json_chars.proofs.Plain.{closing-step}
use Rattle.json_text.specs.Run.{edge_behind}
use Rattle.json_text.specs.Escape.{PlainEscape}
use Rattle.json_text.proofs.Laws.{Left, opened, unopened, take-char, take-close, take-bad, char_after, close-inside, along-words, along-graphic}
use Rattle.json_text.proofs.read_text.Goals as goal
use Rattle.json_text.proofs.read_text.Goals.{After-words_end-j, Then-byte_at-eq34, Then-is_plain_escape}

pub returns-then-byte_at-ne34 : goal.returns-then-byte_at-ne34
returns-then-byte_at-ne34 c = sym (unopened _ _ _ (λ e. c.if-byte_at-ne34.true (c.byte_at.ensures ∙ e)))

pub overflow_add-i : goal.overflow_add-i
overflow_add-i c = omega (arith, inside c.args.s.now _ 34 (sym c.byte_at.ensures ∙ c.if-byte_at-ne34.false) (lit< tt))

pub loop-ty-init : goal.loop-ty-init
loop-ty-init c = opened _ _ _ (inside c.args.s.now _ 34 (sym c.byte_at.ensures ∙ c.if-byte_at-ne34.false) (lit< tt)) (sym c.byte_at.ensures ∙ c.if-byte_at-ne34.false)

pub words_end-j-requires : goal.words_end-j-requires
words_end-j-requires c = c.loop-ty.invariant.inside

-- behind the words from the loop's head on
behind-words : (c : After-words_end-j) → Left c.args.ty c.args.s.now c.args.at c.loop-ty.wrong c.words_end-j.result (edge_behind c.loop-ty.edge c.loop-ty.i c.words_end-j.result)
behind-words c = along-words _ _ _ _ _ _ _ c.loop-ty.invariant c.words_end-j.ensures

closed : (c : Then-byte_at-eq34) → byte_at c.args.s.now c.words_end-j.result ≡ 34
closed c = sym c.byte_at-in-loop-ty.ensures ∙ c.if-byte_at-eq34.true

pub overflow_add-end : goal.overflow_add-end
overflow_add-end c = omega (arith, inside c.args.s.now _ 34 (closed c) (lit< tt))

pub returns-then-byte_at-eq34 : goal.returns-then-byte_at-eq34
returns-then-byte_at-eq34 c = sym (take-close _ _ _ _ _ _ (behind-words (goal.at.returns-then-byte_at-eq34 c).After-words_end-j) (closing-step _ _ (closed c)))

escape : (c : Then-is_plain_escape) → PlainEscape c.args.s.now c.words_end-j.result
escape c = c.is_plain_escape.ensures c.if-is_plain_escape.true

pub overflow_add-i-then-is_plain_escape : goal.overflow_add-i-then-is_plain_escape
overflow_add-i-then-is_plain_escape c = omega (arith, (char_after _ _ _ _ _ _ (behind-words (goal.at.overflow_add-i-then-is_plain_escape c).After-words_end-j) _ _ (escape (goal.at.overflow_add-i-then-is_plain_escape c).Then-is_plain_escape).step).1)

pub loop-ty-smaller-then-is_plain_escape : goal.loop-ty-smaller-then-is_plain_escape
loop-ty-smaller-then-is_plain_escape c = omega (arith, c.words_end-j.ensures.onwards, (char_after _ _ _ _ _ _ (behind-words (goal.at.loop-ty-smaller-then-is_plain_escape c).After-words_end-j) _ _ (escape (goal.at.loop-ty-smaller-then-is_plain_escape c).Then-is_plain_escape).step).1)

pub loop-ty-preserved-then-is_plain_escape : goal.loop-ty-preserved-then-is_plain_escape
loop-ty-preserved-then-is_plain_escape c = along-graphic _ _ _ _ _ _ _ _ (behind-words (goal.at.loop-ty-preserved-then-is_plain_escape c).After-words_end-j) (escape c).step (escape c).graphic

pub loop-ty-smaller : goal.loop-ty-smaller
loop-ty-smaller c = omega (arith, c.words_end-j.ensures.onwards, char_after _ _ _ _ _ _ (behind-words (goal.at.loop-ty-smaller c).After-words_end-j) _ _ (sym c.step_at.ensures ∙ c.in-Char.is))

pub loop-ty-preserved : goal.loop-ty-preserved
loop-ty-preserved c = take-char _ _ _ _ _ _ (behind-words (goal.at.loop-ty-preserved c).After-words_end-j) _ _ _ _ _ (sym c.step_at.ensures ∙ c.in-Char.is) (rw c.is_edge_behind.ensures at c.is_edge-near.ensures) c.rule_of.ensures c.first_of-wrong.ensures

pub overflow_add-result : goal.overflow_add-result
overflow_add-result c = omega (arith, close-inside _ _ _ _ _ _ (behind-words (goal.at.overflow_add-result c).After-words_end-j) (sym c.step_at.ensures ∙ c.in-Close.is))

pub returns-in-Close : goal.returns-in-Close
returns-in-Close c = sym (take-close _ _ _ _ _ _ (behind-words (goal.at.returns-in-Close c).After-words_end-j) (sym c.step_at.ensures ∙ c.in-Close.is))

pub returns-in-Bad : goal.returns-in-Bad
returns-in-Bad c = sym (take-bad _ _ _ _ _ _ (behind-words (goal.at.returns-in-Bad c).After-words_end-j) _ _ (sym c.step_at.ensures ∙ c.in-Bad.is))
