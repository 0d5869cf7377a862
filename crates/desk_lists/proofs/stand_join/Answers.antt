-- `desk_lists::stand_join` meets its contract. The loop's invariant: the first k files stand as the joined set has them; the
-- measure is how many are left.
-- Assumes nothing.
use Prim.Native.Nat.{◌/◌, ◌<◌}
use mathlib.Core.Path.{◌≡◌, refl}
use native.Mathlib.Omega.{arith}
use lib.ListN.{length}
use Rattle.desk_lists.proofs.Laws.{stand-shared, stand-own}
use Rattle.desk_lists.proofs.stand_join.Goals as goal
use Rattle.desk_lists.proofs.stand_join.Goals.{then-is_shared, else-is_shared}

pub loop-k-init : goal.loop-k-init
loop-k-init c = (λ new i l. absurd (omega arith), refl)

pub loop-k-preserved : goal.loop-k-preserved
loop-k-preserved c =
    let k = c.loop-k.k in
    let inv = c.loop-k.invariant in
    let room : k < length c.loop-k.stand / 3 = omega arith in
    elim c.if-is_shared.branch [
      | then-is_shared w ↦ (rw w.stand-is (stand-shared c.args.desk.now c.args.shared.now c.loop-k.stand _ k room inv.0 c.is_shared.ensures w.if-is_shared.true w.stand_file.ensures), rw w.stand-is (omega (arith, w.stand_file.auto)))
      | else-is_shared w ↦ (rw w.stand-is (stand-own c.args.desk.now c.args.shared.now c.loop-k.stand _ k room inv.0 c.is_shared.ensures w.if-is_shared.false w.stand_file-else-is_shared.ensures), rw w.stand-is (omega (arith, w.stand_file-else-is_shared.auto)))
    ]

pub returns : goal.returns
returns c = let e : c.loop-k.k ≡ 20 = omega arith in
    rw e at c.loop-k.invariant.0
