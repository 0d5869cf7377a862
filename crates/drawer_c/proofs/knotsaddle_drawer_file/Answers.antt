-- `drawer_c::knotsaddle_drawer_file` meets its contract: with a refusal it leaves the numbers as they are.
use mathlib.Core.Path.{refl, sym, ◌∙◌}
use Rattle.drawer_c.proofs.Laws.{put-down, as_it_was}
use Rattle.drawer_c.proofs.knotsaddle_drawer_file.Goals as goal

pub returns-then-refusal-ne0 : goal.returns-then-refusal-ne0
returns-then-refusal-ne0 c = let some = c.if-refusal-ne0.true in
    record { value = c.held_fault-refusal.ensures; present_after = as_it_was _ _ _ some; start_after = as_it_was _ _ _ some; size_after = as_it_was _ _ _ some }

pub returns : goal.returns
returns c = record { value = sym c.if-refusal-ne0.false ∙ c.held_fault-refusal.ensures; present_after = put-down _ _ _ refl c.present_held.ensures; start_after = put-down _ _ _ refl c.offset_at.ensures; size_after = put-down _ _ _ refl c.length_at.ensures }
