-- `drawer_c::knotsaddle_drawer_put` meets its contract: it is the call below it.
use Rattle.drawer_c.proofs.knotsaddle_drawer_put.Goals as goal

pub returns : goal.returns
returns c = record { value = c.put_bundle.ensures.value; drawer_after = c.put_bundle.ensures.d_after }
