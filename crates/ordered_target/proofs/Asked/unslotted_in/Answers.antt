-- `ordered_target::Asked::unslotted_in` meets its contract: without an order nothing is asked of the lists.
use Rattle.std.proofs.Common.{sym, true≢false}
use Rattle.ordered_target.proofs.Asked.unslotted_in.Goals as goal

pub first_unfound-requires : goal.first_unfound-requires
first_unfound-requires c = λ e. absurd (true≢false (sym e))
