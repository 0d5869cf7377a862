-- `drawer_bundles::take_bundle` meets its contract: the header and behind it the files are the bundle.
-- Assumes nothing.
use mathlib.Core.Path.{sym, ◌∙◌}
use native.Mathlib.Omega.{arith}
use Rattle.bundle.proofs.Laws.{both-written}
use Rattle.drawer_bundles.proofs.Room.{bundle-small}
use Rattle.drawer_bundles.proofs.Laws.{take-refused, take-full, take_done}
use Rattle.drawer_bundles.proofs.take_bundle.Goals as goal

pub returns-then-refusal-ne0 : goal.returns-then-refusal-ne0
returns-then-refusal-ne0 c = record { value = (take-refused 20 _ c.args.out.now c.drawer_fault-refusal.ensures c.if-refusal-ne0.true).0; out_after = (take-refused 20 _ c.args.out.now c.drawer_fault-refusal.ensures c.if-refusal-ne0.true).1 }

pub held_length-length-requires : goal.held_length-length-requires
held_length-length-requires c = sym c.drawer_fault-refusal.ensures ∙ c.if-refusal-ne0.false

pub returns-then-out-length : goal.returns-then-out-length
returns-then-out-length c = record { value = (take-full 20 _ c.args.out.now c.drawer_fault-refusal.ensures c.if-refusal-ne0.false c.held_length-length.ensures c.if-out-length.true).0; out_after = (take-full 20 _ c.args.out.now c.drawer_fault-refusal.ensures c.if-refusal-ne0.false c.held_length-length.ensures c.if-out-length.true).1 }

pub put_header-requires : goal.put_header-requires
put_header-requires c = (omega (arith, c.held_length-length.ensures, c.if-out-length.false), bundle-small 20 _ (sym c.drawer_fault-refusal.ensures ∙ c.if-refusal-ne0.false))

pub put_files-requires : goal.put_files-requires
put_files-requires c = (omega (arith, c.held_length-length.ensures, c.if-out-length.false, c.put_header.auto.out), bundle-small 20 _ (sym c.drawer_fault-refusal.ensures ∙ c.if-refusal-ne0.false))

pub returns : goal.returns
returns c = record { value = (take_done 20 _ c.args.out.now c.drawer_fault-refusal.ensures c.if-refusal-ne0.false c.held_length-length.ensures c.if-out-length.false (both-written 20 _ _ c.put_header.ensures c.put_files.ensures)).0; out_after = (take_done 20 _ c.args.out.now c.drawer_fault-refusal.ensures c.if-refusal-ne0.false c.held_length-length.ensures c.if-out-length.false (both-written 20 _ _ c.put_header.ensures c.put_files.ensures)).1 }
