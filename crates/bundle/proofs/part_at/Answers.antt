-- `bundle::part_at` meets its contract: a file's numbers are small enough that its end is a place.
use mathlib.Core.Path.{◌∙◌}
use native.Mathlib.Omega.{arith}
use Rattle.bundle_bytes.proofs.Laws.{bytes-known}
use Rattle.bundle.proofs.Laws.{offset-small, length-small, part-read}
use Rattle.bundle.proofs.part_at.Goals as goal

pub overflow_add-from : goal.overflow_add-from
overflow_add-from c = let b = bytes-known c.args.s.now c.shared_slice_known-1.given in
    omega (arith, c.offset_at-from.ensures, offset-small c.args.s.now c.args.k b, c.length_at-n.ensures, length-small c.args.s.now c.args.k b)

pub returns : goal.returns
returns c = c.part.ensures ∙ part-read _ _ c.offset_at-from.ensures c.length_at-n.ensures
