-- `json_text::is_plain_escape` meets its contract: the bytes that it tests make the escape.
use Rattle.std.proofs.Common.{refl, sym, ◌∙◌, arith}
use Rattle.json_text.proofs.Escape.{Begun, byte_behind, begun-in, ends-ten, ends-small, ends-f}
use Rattle.json_text.proofs.is_plain_escape.Goals as goal
use Rattle.json_text.proofs.is_plain_escape.Goals.{Then-is_within, then-is_within-2, else-is_within-2}

begun : (c : Then-is_within) → Begun c.args.s.now c.args.j
begun c =
    begun-in _ _ _ refl (omega arith) (omega arith) (omega arith) (omega arith) (sym c.is_within.ensures ∙ c.if-is_within.true)

pub returns-then-is_within-3 : goal.returns-then-is_within-3
returns-then-is_within-3 c = λ _. elim c.if-is_within-2.branch [
  | then-is_within-2 w ↦ ends-ten _ _ (begun (goal.at.returns-then-is_within-3 c).Then-is_within) (rw (← byte_behind _ _ 5) (sym c.is_within-then-is_within.ensures ∙ w.if-is_within-2.true))
  | else-is_within-2 w ↦ ends-small _ _ (begun (goal.at.returns-then-is_within-3 c).Then-is_within) (rw (← byte_behind _ _ 5) (sym w.is_within-else-is_within-2.ensures ∙ sym w.value-is ∙ c.if-is_within-3.true))
]

pub returns-then-last-eq102 : goal.returns-then-last-eq102
returns-then-last-eq102 c = λ e. ends-f _ _ (begun (goal.at.returns-then-last-eq102 c).Then-is_within) (rw (← byte_behind _ _ 5) c.if-last-eq102.true) (rw (← byte_behind _ _ 4) e)
