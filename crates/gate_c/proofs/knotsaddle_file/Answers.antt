-- `gate_c::knotsaddle_file` meets its contract: with a refusal it leaves both lists as they are.
use mathlib.Core.Path.{◌≡◌, sym, ◌∙◌}
use native.Mathlib.Omega.{arith}
use lib.ListN.{length, length-set}
use Rattle.gate_c.proofs.Files.{lists-fit, asked-ill, asked-well}
use Rattle.gate_c.proofs.knotsaddle_file.Goals as goal
use Rattle.gate_c.proofs.knotsaddle_file.Goals.{After-length_at-length}

pub returns-then-answer-ne0 : goal.returns-then-answer-ne0
returns-then-answer-ne0 c = let whole = asked-ill _ _ _ _ _ c.file_fault-answer.ensures c.if-answer-ne0.true in record { value = whole.0; present_after = whole.1.0; place_after = whole.1.1 }

-- a question that is not refused came with lists of the right length
fit : (c : After-length_at-length) → (length c.args.present.now ≡ 1) × (length c.args.place.now ≡ 2)
fit c = lists-fit _ _ _ _ _ (sym c.file_fault-answer.ensures ∙ c.if-answer-ne0.false)

pub bounds-present-0 : goal.bounds-present-0
bounds-present-0 c = omega (arith, (fit c).0)

pub bounds-place-0 : goal.bounds-place-0
bounds-place-0 c = omega (arith, (fit c).1)

pub bounds-place-1 : goal.bounds-place-1
bounds-place-1 c = omega (arith, (fit c).1, length-set c.args.place.now 0 c.offset_at-start.result)

pub returns : goal.returns
returns c = let whole = asked-well _ _ _ _ _ c.file_fault-answer.ensures c.if-answer-ne0.false c.present_number-there.ensures c.offset_at-start.ensures c.length_at-length.ensures in record { value = whole.0; present_after = whole.1.0; place_after = whole.1.1 }
