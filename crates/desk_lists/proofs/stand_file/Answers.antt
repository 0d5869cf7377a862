-- `desk_lists::stand_file` meets its contract.
-- Assumes nothing.
use native.Mathlib.Omega.{arith}
use Rattle.bundle_bytes.proofs.Laws.{bytes-known}
use Rattle.bundle.proofs.Laws.{offset-small, length-small}
use Rattle.desk_lists.proofs.Laws.{put_as}
use Rattle.desk_lists.proofs.stand_file.Goals as goal

pub overflow_add-to : goal.overflow_add-to
overflow_add-to c = let b = bytes-known c.args.s.now c.shared_slice_known-1.given in
    omega (arith, c.offset_at-from.ensures, offset-small c.args.s.now c.args.k b, c.length_at.ensures, length-small c.args.s.now c.args.k b)

pub returns : goal.returns
returns c = put_as c.args.stand.now c.args.s.now c.args.number c.args.k c.is_omitted.ensures c.slice_number.ensures c.offset_at-from.ensures c.length_at.ensures c.place.ensures
