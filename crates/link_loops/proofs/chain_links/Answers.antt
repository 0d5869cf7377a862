-- `link_loops::chain_links` meets its contract: the links from i on are chained.
-- Assumes nothing.
use Prim.Native.Nat.{ℕ, ◌+◌, ◌-◌, ◌<◌}
use mathlib.Core.Path.{◌≡◌, refl}
use native.Mathlib.Omega.{arith}
use Rattle.link_loops.proofs.Chains.{chain-starts, chain-ends, class-below, chain-again}
use Rattle.link_loops.proofs.chain_links.Goals as goal

one-back : (i : ℕ) → 0 < i → (i - 1) + 1 ≡ i
one-back i h = omega arith

pub loop-i-init : goal.loop-i-init
loop-i-init c = chain-starts _ c.requires

pub offset_bounds-from-i : goal.offset_bounds-from-i
offset_bounds-from-i c = omega (arith, c.loop-i.invariant.inside)

pub bounds-from-i : goal.bounds-from-i
bounds-from-i c = omega (arith, c.loop-i.invariant.inside)

pub offset_bounds-heads-c : goal.offset_bounds-heads-c
offset_bounds-heads-c c = omega (arith, c.loop-i.invariant.heads-long, class-below _ c.loop-i.invariant (c.loop-i.i - 1) (one-back _ c.loop-i-test.true))

pub bounds-heads-c : goal.bounds-heads-c
bounds-heads-c c = omega (arith, c.loop-i.invariant.heads-long, class-below _ c.loop-i.invariant (c.loop-i.i - 1) (one-back _ c.loop-i-test.true))

pub offset_bounds-nexts-i : goal.offset_bounds-nexts-i
offset_bounds-nexts-i c = omega (arith, c.loop-i.invariant.inside)

pub bounds-nexts-i : goal.bounds-nexts-i
bounds-nexts-i c = omega (arith, c.loop-i.invariant.inside, c.loop-i.invariant.nexts-long)

pub offset_bounds-heads-c-in-loop-i : goal.offset_bounds-heads-c-in-loop-i
offset_bounds-heads-c-in-loop-i c = omega (arith, c.loop-i.invariant.heads-long, class-below _ c.loop-i.invariant (c.loop-i.i - 1) (one-back _ c.loop-i-test.true))

pub bounds-heads-c-in-loop-i : goal.bounds-heads-c-in-loop-i
bounds-heads-c-in-loop-i c = omega (arith, c.loop-i.invariant.heads-long, class-below _ c.loop-i.invariant (c.loop-i.i - 1) (one-back _ c.loop-i-test.true))

pub loop-i-preserved : goal.loop-i-preserved
loop-i-preserved c = chain-again _ c.loop-i.invariant (c.loop-i.i - 1) (one-back _ c.loop-i-test.true) refl refl

pub shape_of-heads : goal.shape_of-heads
shape_of-heads c = omega (arith, c.loop-i.invariant.heads-long, c.requires.heads-long)

pub shape_of-nexts : goal.shape_of-nexts
shape_of-nexts c = omega (arith, c.loop-i.invariant.nexts-long, c.requires.nexts-long)

pub returns : goal.returns
returns c = chain-ends _ c.loop-i.invariant (omega arith)
