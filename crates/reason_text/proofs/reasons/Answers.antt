-- `reason_text::reasons` meets its contract: what it puts is the text, as far as there is room.
use Prim.Native.Nat.{ℕ}
use mathlib.Core.Path.{sym, ◌∙◌}
use native.Mathlib.Omega.{arith}
use lib.ListN.{length-replicate}
use lib.Seq.{length-take-le}
use Rattle.json_bytes.specs.Ascii.{codes}
use Rattle.reason_text.proofs.Whole.{short-stands, text-stands}
use Rattle.reason_text.proofs.reasons.Goals as goal

pub returns-then-work-workspace : goal.returns-then-work-workspace
unfolding codes
returns-then-work-workspace c = let whole = short-stands _ _ _ _ _ c.workspace.ensures c.if-work-workspace.true c.put_counted.ensures in record { value = whole.0; out_after = whole.1 }

pub slice_bounds-put_answer-end : goal.slice_bounds-put_answer-end
slice_bounds-put_answer-end c = sym (length-take-le _ _ (omega (arith, length-replicate {A = ℕ} 96 2)))

pub slice_bounds-put_answer-end-2 : goal.slice_bounds-put_answer-end-2
slice_bounds-put_answer-end-2 c = sym (length-take-le _ _ (omega (arith, length-replicate {A = ℕ} 96 0)))

pub slice_bounds-put_answer-end-3 : goal.slice_bounds-put_answer-end-3
slice_bounds-put_answer-end-3 c = sym (length-take-le _ _ (omega (arith, length-replicate {A = ℕ} 96 0)))

pub slice_bounds-put_answer-end-4 : goal.slice_bounds-put_answer-end-4
slice_bounds-put_answer-end-4 c = sym (length-take-le _ _ (omega (arith, length-replicate {A = ℕ} 96 0)))

pub put_answer-requires : goal.put_answer-requires
put_answer-requires c = record { enough_workspace = omega (arith, c.workspace.ensures); lists_len = (length-take-le _ _ (omega (arith, length-replicate {A = ℕ} 96 2)) ∙ c.few_marks-n.ensures.0, length-take-le _ _ (omega (arith, length-replicate {A = ℕ} 96 0)) ∙ c.few_marks-n.ensures.0, length-take-le _ _ (omega (arith, length-replicate {A = ℕ} 96 0)) ∙ c.few_marks-n.ensures.0, length-take-le _ _ (omega (arith, length-replicate {A = ℕ} 96 0)) ∙ c.few_marks-n.ensures.0) }

pub returns : goal.returns
returns c = let whole = text-stands _ _ _ _ _ (omega (arith, c.workspace.ensures)) c.put_answer.ensures in record { value = whole.0; out_after = whole.1 }
