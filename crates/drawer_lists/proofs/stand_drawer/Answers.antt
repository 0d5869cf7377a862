-- `drawer_lists::stand_drawer` meets its contract. The loop's invariant: the first k files are put down; the measure is how many
-- are left.
-- Assumes nothing.
use mathlib.Core.Path.{◌≡◌, refl, ap, ◌∙◌}
use mathlib.Core.Bool.{cond}
use native.Mathlib.Omega.{arith}
use lib.ListN.{length}
use Rattle.bundle_bytes.proofs.Laws.{bytes-known}
use Rattle.bundle.proofs.Laws.{offset-small, length-small}
use Rattle.gate_lists.specs.Stands.{stands_in}
use Rattle.gate_lists.proofs.Stands.{stands-length, stands-next}
use Rattle.drawer_lists.proofs.stand_drawer.Goals as goal

pub loop-k-init : goal.loop-k-init
unfolding stands_in
loop-k-init c = refl

pub overflow_add-to : goal.overflow_add-to
overflow_add-to c = let k = c.loop-k.k in
    let b = bytes-known c.args.d.now c.shared_slice_known-1.given in
    omega (arith, c.offset_at-from.ensures, offset-small c.args.d.now k b, c.length_at.ensures, length-small c.args.d.now k b)

pub loop-k-preserved : goal.loop-k-preserved
loop-k-preserved c =
    stands-next c.args.d.now c.args.stand.now c.loop-k.k c.loop-k.invariant (omega arith)
    (c.slice_number.ensures ∙ ap (λ t. cond t 0 1) c.is_omitted.ensures)
    c.offset_at-from.ensures
    (rw (c.offset_at-from.ensures, c.length_at.ensures))
    c.place.ensures

pub shape_of-stand : goal.shape_of-stand
shape_of-stand c = omega (arith, ap length c.loop-k.invariant, stands-length c.args.d.now c.args.stand.now c.loop-k.k)

pub returns : goal.returns
returns c = let e : c.loop-k.k ≡ 20 = omega arith in
    rw e at c.loop-k.invariant
