-- `join_bundle::put_all` meets its contract: each file goes into the bundle that the one before left.
use Rattle.join_bundle.proofs.Laws.{all-written}
use Rattle.join_bundle.proofs.put_all.Goals as goal

pub returns : goal.returns
returns c = all-written c.args.desk.now c.args.shared.now c.requires.no_join_fault c.requires.joined_fits.0 c.args.first.now c.args.second.now c.args.out.now c.requires.buffers_len.0 c.requires.buffers_len.1 c.requires.joined_fits.1 (c.put_shared-six.ensures.value, c.put_shared-six.ensures.out_after) c.part.ensures (c.put_shared-seven.ensures.value, c.put_shared-seven.ensures.out_after) c.part-2.ensures c.put_shared.ensures.out_after
