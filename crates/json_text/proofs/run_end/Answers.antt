-- `json_text::run_end` meets its contract: what is left of the run from here ends where the whole run ends.
use Rattle.std.proofs.Common.{◌≡◌, ℕ, ◌+◌, ◌<◌, List, length, sym, refl, ap, ◌∙◌, arith}
use Rattle.json_bytes.specs.Reads.{byte_at}
use Rattle.json_bytes.proofs.Laws.{run-stops, run_ends}
use Rattle.json_text.specs.Run.{is_graphic, run_end}
use Rattle.json_text.specs.Eight.{odd_bytes, first_byte}
use Rattle.json_text.proofs.Flags.{eight-pass, eight-meet, first-bound}
use Rattle.json_text.proofs.run_end.Goals as goal
use Rattle.json_text.proofs.run_end.Goals.{Else-odd-ne0}

-- a quote is no byte of a run
quote-ends : (s : List ℕ) (j : ℕ) → j < length s → byte_at s j ≡ 34 → run_end s j ≡ j
unfolding run_end is_graphic
quote-ends s j l e = run-stops is_graphic s j l (rw e)

pub returns-then-s-i : goal.returns-then-s-i
unfolding run_end
returns-then-s-i c = sym (run_ends is_graphic _ _ c.if-s-i.true)

pub loop-j-init : goal.loop-j-init
loop-j-init c = (refl, omega arith)

pub overflow_add-result : goal.overflow_add-result
overflow_add-result c = omega (arith, first-bound c.lowest_odd-odd.result)

pub returns-then-odd-ne0 : goal.returns-then-odd-ne0
returns-then-odd-ne0 c = eight-meet _ c.shared_slice_known-1.given _ _ (omega arith) (c.lowest_odd-odd.ensures ∙ ap (λ x. first_byte (odd_bytes x)) c.eight_at.ensures) (omega arith) c.if-odd-ne0.true _ c.first_byte.ensures
    ∙ sym c.loop-j.invariant.0

-- behind eight bytes of the run
passed : (c : Else-odd-ne0) → run_end c.args.s.now c.args.i ≡ run_end c.args.s.now (c.loop-j.j + 8)
passed c =
    c.loop-j.invariant.0 ∙ eight-pass _ c.shared_slice_known-1.given _ _ (omega arith) (c.lowest_odd-odd.ensures ∙ ap (λ x. first_byte (odd_bytes x)) c.eight_at.ensures) c.if-odd-ne0.false

pub returns-then-s-j-eq34 : goal.returns-then-s-j-eq34
returns-then-s-j-eq34 c = sym (passed (goal.at.returns-then-s-j-eq34 c).Else-odd-ne0 ∙ quote-ends _ _ (omega arith) c.if-s-j-eq34.true)

pub loop-j-preserved : goal.loop-j-preserved
loop-j-preserved c = (passed (goal.at.loop-j-preserved c).Else-odd-ne0, omega arith)

pub returns : goal.returns
returns c = c.bytes_end.ensures ∙ sym c.loop-j.invariant.0
