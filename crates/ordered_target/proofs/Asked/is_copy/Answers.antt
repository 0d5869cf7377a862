-- `ordered_target::Asked::is_copy` meets its contract: a record that has the same plain string is a target, and of any other nothing is promised.
use Rattle.std.proofs.Common.{◌+◌, ◌-◌, sym, refl, ◌∙◌, ltb-true}
use Rattle.ordered_target.proofs.Copies.{copy_seen}
use Rattle.ordered_target.proofs.Asked.is_copy.Goals as goal

pub returns-then-same_bytes : goal.returns-then-same_bytes
returns-then-same_bytes c = let n = c.args.end - c.args.at in
    λ e. copy_seen _ _ n _ _ _ _ _ _ c.start_of-start.result (c.start_of-start.result + n - c.start_of-start.result) _ _ _ c.if-self-q.false c.start_of-start.ensures refl refl (sym c.same_bytes.ensures ∙ c.if-same_bytes.true) c.plain_end.ensures (ltb-true 0 _ e)
