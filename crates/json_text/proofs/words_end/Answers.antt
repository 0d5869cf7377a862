-- `json_text::words_end` meets its contract: what is passed up to the loop's head stands in words.
use Rattle.std.proofs.Common.{◌≡◌, sym, ap, ◌∙◌, arith}
use Rattle.json_bytes.specs.Reads.{byte_at}
use Rattle.json_text.specs.Eight.{stop_bytes}
use Rattle.json_text.proofs.Flags.{first-bound}
use Rattle.json_text.proofs.Words.{passed_none, words-none, passed-seven, words-stop, words-over}
use Rattle.json_text.proofs.words_end.Goals as goal
use Rattle.json_text.proofs.words_end.Goals.{Else-byte_at-eq32}

pub returns-then-byte_at-eq32 : goal.returns-then-byte_at-eq32
returns-then-byte_at-eq32 c = words-none _ _ (sym c.byte_at.ensures ∙ c.if-byte_at-eq32.true)

not-space : (c : Else-byte_at-eq32) → byte_at c.args.s.now c.args.i ≡ 32 → ⊥
not-space c e = c.if-byte_at-eq32.false (c.byte_at.ensures ∙ e)

pub loop-k-init : goal.loop-k-init
loop-k-init c = passed_none _ _ c.requires

pub overflow_add-k : goal.overflow_add-k
overflow_add-k c = omega (arith, c.loop-k.invariant.inside)

pub overflow_add-result : goal.overflow_add-result
overflow_add-result c = omega (arith, first-bound c.stop_bytes-stop.result)

pub returns-then-stop-ne0 : goal.returns-then-stop-ne0
returns-then-stop-ne0 c = words-stop _ _ _ c.loop-k.invariant (not-space (goal.at.returns-then-stop-ne0 c).Else-byte_at-eq32) c.shared_slice_known-1.given _ _ (c.stop_bytes-stop.ensures ∙ ap stop_bytes c.eight_at.ensures) c.if-stop-ne0.true c.first_byte.ensures

pub loop-k-preserved : goal.loop-k-preserved
loop-k-preserved c = passed-seven _ _ _ c.loop-k.invariant c.shared_slice_known-1.given (omega arith) _ (c.stop_bytes-stop.ensures ∙ ap stop_bytes c.eight_at.ensures) c.if-stop-ne0.false

pub returns : goal.returns
returns c = words-over _ _ _ c.loop-k.invariant (not-space (goal.at.returns c).Else-byte_at-eq32) _ c.bytes_end.ensures
