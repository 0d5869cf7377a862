-- `drawer_bundles::put_bundle` meets its contract.
use Rattle.drawer_bundles.proofs.Laws.{put-so}
use Rattle.drawer_bundles.proofs.put_bundle.Goals as goal

pub returns-then-refusal-eq0-clause-d_after : goal.returns-then-refusal-eq0-clause-d_after
returns-then-refusal-eq0-clause-d_after c = put-so 20 _ _ c.put_fault-refusal.ensures c.if-refusal-eq0.true c.put_part.ensures
