-- `bundle::make_bundle` meets its contract: the header and behind it the files are the bundle.
use Rattle.bundle.proofs.Laws.{both-written, made-done}
use Rattle.bundle.proofs.make_bundle.Goals as goal

pub returns-clause-out_after : goal.returns-clause-out_after
returns-clause-out_after c = (made-done _ _ _ _ c.try_bundle-tried.ensures c.if-tried-ne0.false c.args.out.now c.if-out-length.false (both-written _ _ _ c.put_header.ensures c.put_files.ensures)).1
