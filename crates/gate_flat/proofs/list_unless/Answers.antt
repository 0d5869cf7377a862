-- `gate_flat::list_unless` meets its contract: refused before, too many entries, or all of them.
use Rattle.gate_flat.proofs.Answers.{count-refused, count-short, count-all}
use Rattle.gate_flat.proofs.list_unless.Goals as goal

pub returns-then-refusal-ne0 : goal.returns-then-refusal-ne0
returns-then-refusal-ne0 c = let whole = count-refused _ _ _ _ c.requires _ c.if-refusal-ne0.true c.refused.ensures in record { value = whole.0; work_after = whole.1 }

pub returns-then-room-n : goal.returns-then-room-n
returns-then-room-n c = let whole = count-short _ _ _ _ c.requires _ c.if-refusal-ne0.false c.list_set-n.ensures.value c.list_set-n.ensures.work_after c.if-room-n.true c.refused-then-room-n.ensures in record { value = whole.0; work_after = whole.1 }

pub returns : goal.returns
returns c = let whole = count-all _ _ _ _ c.requires _ c.if-refusal-ne0.false c.list_set-n.ensures.value c.list_set-n.ensures.work_after c.if-room-n.false in record { value = whole.0; work_after = whole.1 }
