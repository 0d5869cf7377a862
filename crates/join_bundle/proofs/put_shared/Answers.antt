-- `join_bundle::put_shared` meets its contract.
use Rattle.join_bundle.proofs.Laws.{put-file}
use Rattle.join_bundle.proofs.put_shared.Goals as goal

pub returns : goal.returns
returns c = let whole = put-file c.args.s.now c.args.shared.now c.args.out.now c.args.k c.is_omitted-present.ensures c.part_at.ensures (c.make_bundle.ensures.value, c.make_bundle.ensures.out_after) in record { value = whole.0; out_after = whole.1 }
