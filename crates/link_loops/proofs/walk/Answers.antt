-- `link_loops::walk` meets its contract: each turn goes into a class, along it or out of it, or ends the walk.
-- Assumes nothing.
use Prim.Native.Nat.{ℕ, ◌+◌, ◌-◌}
use mathlib.Core.Path.{◌≡◌, refl}
use native.Mathlib.Omega.{arith}
use Rattle.link_loops.proofs.Lists.{walk-starts, root-passed, root-headed, room-left, steps-few, went-into, link-inside, seen-new, seen-ring, went_on, class-inside, went_back, walk_ends}
use Rattle.link_loops.proofs.walk.Goals as goal

one-back : (k : ℕ) → (k ≡ 0 → ⊥) → (k - 1) + 1 ≡ k
one-back k d = omega arith

pub loop-root-init : goal.loop-root-init
loop-root-init c = walk-starts _ _ _ _ c.requires

pub offset_bounds-from-root : goal.offset_bounds-from-root
offset_bounds-from-root c = omega (arith, c.loop-root.invariant.few)

pub offset_bounds-mark-c : goal.offset_bounds-mark-c
offset_bounds-mark-c c = omega (arith, c.loop-root.invariant.few, c.loop-root.invariant.below c.loop-root.root c.loop-root-test.true)

pub bounds-mark-c : goal.bounds-mark-c
bounds-mark-c c = omega (arith, c.loop-root.invariant.mark-long, c.loop-root.invariant.below c.loop-root.root c.loop-root-test.true)

pub enter-requires : goal.enter-requires
enter-requires c = (omega (arith, c.loop-root.invariant.chained.heads-long, c.loop-root.invariant.below c.loop-root.root c.loop-root-test.true), omega (arith, c.loop-root.invariant.mark-long, c.loop-root.invariant.below c.loop-root.root c.loop-root-test.true), omega (arith, c.loop-root.invariant.way_long, c.if-steps-eq0.true, c.loop-root-test.true), omega (arith, c.loop-root.invariant.way_long, c.loop-root.invariant.few))

pub overflow_add-steps : goal.overflow_add-steps
overflow_add-steps c = omega (arith, c.if-steps-eq0.true)

pub loop-root-smaller-then-mark-c-eq0 : goal.loop-root-smaller-then-mark-c-eq0
loop-root-smaller-then-mark-c-eq0 c = (went-into _ _ _ _ c.loop-root.invariant _ (c.loop-root.invariant.below c.loop-root.root c.loop-root-test.true) c.if-mark-c-eq0.true (root-headed _ _ _ _ c.loop-root.invariant c.loop-root-test.true) c.loop-root-test.true (λ j e. absurd (omega (arith, c.if-steps-eq0.true))) c.enter.ensures.way_after c.enter.ensures.mark_after).1

pub loop-root-preserved-then-mark-c-eq0 : goal.loop-root-preserved-then-mark-c-eq0
loop-root-preserved-then-mark-c-eq0 c = (went-into _ _ _ _ c.loop-root.invariant _ (c.loop-root.invariant.below c.loop-root.root c.loop-root-test.true) c.if-mark-c-eq0.true (root-headed _ _ _ _ c.loop-root.invariant c.loop-root-test.true) c.loop-root-test.true (λ j e. absurd (omega (arith, c.if-steps-eq0.true))) c.enter.ensures.way_after c.enter.ensures.mark_after).0

pub overflow_add-root : goal.overflow_add-root
overflow_add-root c = omega (arith, c.loop-root.invariant.few, c.loop-root-test.true)

pub loop-root-smaller-else-mark-c-eq0 : goal.loop-root-smaller-else-mark-c-eq0
loop-root-smaller-else-mark-c-eq0 c = (root-passed _ _ _ _ c.loop-root.invariant c.loop-root-test.true c.if-steps-eq0.true c.if-mark-c-eq0.false).1

pub loop-root-preserved-else-mark-c-eq0 : goal.loop-root-preserved-else-mark-c-eq0
loop-root-preserved-else-mark-c-eq0 c = (root-passed _ _ _ _ c.loop-root.invariant c.loop-root-test.true c.if-steps-eq0.true c.if-mark-c-eq0.false).0

pub overflow_sub-q : goal.overflow_sub-q
overflow_sub-q c = omega (arith, one-back _ c.if-steps-eq0.false)

pub offset_bounds-way-steps : goal.offset_bounds-way-steps
offset_bounds-way-steps c = omega (arith, c.loop-root.invariant.few, one-back _ c.if-steps-eq0.false, steps-few _ _ _ _ c.loop-root.invariant)

pub bounds-way-steps : goal.bounds-way-steps
bounds-way-steps c = omega (arith, c.loop-root.invariant.way_long, one-back _ c.if-steps-eq0.false, steps-few _ _ _ _ c.loop-root.invariant)

pub offset_bounds-to-q : goal.offset_bounds-to-q
offset_bounds-to-q c = omega (arith, c.loop-root.invariant.few, link-inside _ _ _ _ c.loop-root.invariant (c.loop-root.steps - 1) (one-back _ c.if-steps-eq0.false))

pub bounds-to-q : goal.bounds-to-q
bounds-to-q c = omega (arith, c.loop-root.invariant.to-long, link-inside _ _ _ _ c.loop-root.invariant (c.loop-root.steps - 1) (one-back _ c.if-steps-eq0.false))

pub seen-v-requires : goal.seen-v-requires
seen-v-requires c = (omega (arith, c.loop-root.invariant.chained.heads-long, c.loop-root.invariant.mark-long), omega (arith, c.loop-root.invariant.mark-long, c.loop-root.invariant.few))

pub enter-requires-then-v-eq0 : goal.enter-requires-then-v-eq0
enter-requires-then-v-eq0 c = let s = seen-new _ _ _ _ c.loop-root.invariant (c.loop-root.steps - 1) (one-back _ c.if-steps-eq0.false) _ c.seen-v.ensures c.if-v-eq0.true in (omega (arith, s.0, c.loop-root.invariant.chained.heads-long), omega (arith, s.0, c.loop-root.invariant.mark-long), omega (arith, c.loop-root.invariant.way_long, room-left _ _ _ _ c.loop-root.invariant _ s.0 s.1), omega (arith, c.loop-root.invariant.way_long, c.loop-root.invariant.few))

pub overflow_add-steps-then-v-eq0 : goal.overflow_add-steps-then-v-eq0
overflow_add-steps-then-v-eq0 c = omega (arith, c.loop-root.invariant.few, steps-few _ _ _ _ c.loop-root.invariant)

pub loop-root-smaller-then-v-eq0 : goal.loop-root-smaller-then-v-eq0
loop-root-smaller-then-v-eq0 c = let s = seen-new _ _ _ _ c.loop-root.invariant (c.loop-root.steps - 1) (one-back _ c.if-steps-eq0.false) _ c.seen-v.ensures c.if-v-eq0.true in (went-into _ _ _ _ c.loop-root.invariant _ s.0 s.1 s.2 c.loop-root-test.true (λ j e. let z : j ≡ c.loop-root.steps - 1 = omega arith in rw z) c.enter-then-v-eq0.ensures.way_after c.enter-then-v-eq0.ensures.mark_after).1

pub loop-root-preserved-then-v-eq0 : goal.loop-root-preserved-then-v-eq0
loop-root-preserved-then-v-eq0 c = let s = seen-new _ _ _ _ c.loop-root.invariant (c.loop-root.steps - 1) (one-back _ c.if-steps-eq0.false) _ c.seen-v.ensures c.if-v-eq0.true in (went-into _ _ _ _ c.loop-root.invariant _ s.0 s.1 s.2 c.loop-root-test.true (λ j e. let z : j ≡ c.loop-root.steps - 1 = omega arith in rw z) c.enter-then-v-eq0.ensures.way_after c.enter-then-v-eq0.ensures.mark_after).0

pub overflow_sub-result : goal.overflow_sub-result
overflow_sub-result c = omega (arith, one-back _ c.if-v-eq0.false)

pub shape_of-way-then-v-n : goal.shape_of-way-then-v-n
shape_of-way-then-v-n c = omega (arith, c.loop-root.invariant.way_long, c.requires.way_long)

pub shape_of-mark-then-v-n : goal.shape_of-mark-then-v-n
shape_of-mark-then-v-n c = omega (arith, c.loop-root.invariant.mark-long, c.requires.mark-long)

pub returns-then-v-n : goal.returns-then-v-n
returns-then-v-n c = seen-ring _ _ _ _ c.loop-root.invariant (c.loop-root.steps - 1) (one-back _ c.if-steps-eq0.false) _ c.seen-v.ensures c.if-v-eq0.false c.if-v-n.true

pub offset_bounds-nexts-q : goal.offset_bounds-nexts-q
offset_bounds-nexts-q c = omega (arith, c.loop-root.invariant.few, link-inside _ _ _ _ c.loop-root.invariant (c.loop-root.steps - 1) (one-back _ c.if-steps-eq0.false))

pub bounds-nexts-q : goal.bounds-nexts-q
bounds-nexts-q c = omega (arith, c.loop-root.invariant.chained.nexts-long, link-inside _ _ _ _ c.loop-root.invariant (c.loop-root.steps - 1) (one-back _ c.if-steps-eq0.false))

pub overflow_sub-way : goal.overflow_sub-way
overflow_sub-way c = omega (arith, one-back _ c.if-steps-eq0.false)

pub offset_bounds-way-steps-then-next-n : goal.offset_bounds-way-steps-then-next-n
offset_bounds-way-steps-then-next-n c = omega (arith, c.loop-root.invariant.few, one-back _ c.if-steps-eq0.false, steps-few _ _ _ _ c.loop-root.invariant)

pub bounds-way-steps-then-next-n : goal.bounds-way-steps-then-next-n
bounds-way-steps-then-next-n c = omega (arith, c.loop-root.invariant.way_long, one-back _ c.if-steps-eq0.false, steps-few _ _ _ _ c.loop-root.invariant)

pub loop-root-smaller-then-next-n : goal.loop-root-smaller-then-next-n
loop-root-smaller-then-next-n c = (went_on _ _ _ _ c.loop-root.invariant (c.loop-root.steps - 1) (one-back _ c.if-steps-eq0.false) _ c.seen-v.ensures c.if-v-n.false c.if-next-n.true refl).1

pub loop-root-preserved-then-next-n : goal.loop-root-preserved-then-next-n
loop-root-preserved-then-next-n c = (went_on _ _ _ _ c.loop-root.invariant (c.loop-root.steps - 1) (one-back _ c.if-steps-eq0.false) _ c.seen-v.ensures c.if-v-n.false c.if-next-n.true refl).0

pub offset_bounds-from-q : goal.offset_bounds-from-q
offset_bounds-from-q c = omega (arith, c.loop-root.invariant.few, link-inside _ _ _ _ c.loop-root.invariant (c.loop-root.steps - 1) (one-back _ c.if-steps-eq0.false))

pub bounds-from-q : goal.bounds-from-q
bounds-from-q c = omega (arith, link-inside _ _ _ _ c.loop-root.invariant (c.loop-root.steps - 1) (one-back _ c.if-steps-eq0.false))

pub overflow_add-mark : goal.overflow_add-mark
overflow_add-mark c = omega (arith, c.loop-root.invariant.few)

pub overflow_add-mark-else-next-n : goal.overflow_add-mark-else-next-n
overflow_add-mark-else-next-n c = omega (arith, c.loop-root.invariant.few, c.loop-root.invariant.counted)

pub offset_bounds-mark-left : goal.offset_bounds-mark-left
offset_bounds-mark-left c = omega (arith, c.loop-root.invariant.few, class-inside _ _ _ _ c.loop-root.invariant (c.loop-root.steps - 1) (one-back _ c.if-steps-eq0.false))

pub bounds-mark-left : goal.bounds-mark-left
bounds-mark-left c = omega (arith, c.loop-root.invariant.mark-long, class-inside _ _ _ _ c.loop-root.invariant (c.loop-root.steps - 1) (one-back _ c.if-steps-eq0.false))

pub overflow_add-through : goal.overflow_add-through
overflow_add-through c = omega (arith, c.loop-root.invariant.few, c.loop-root.invariant.counted)

pub overflow_sub-steps : goal.overflow_sub-steps
overflow_sub-steps c = omega (arith, one-back _ c.if-steps-eq0.false)

pub loop-root-smaller : goal.loop-root-smaller
loop-root-smaller c = (went_back _ _ _ _ c.loop-root.invariant (c.loop-root.steps - 1) (one-back _ c.if-steps-eq0.false) _ c.seen-v.ensures c.if-v-n.false c.if-next-n.false c.loop-root-test.true refl).1

pub loop-root-preserved : goal.loop-root-preserved
loop-root-preserved c = (went_back _ _ _ _ c.loop-root.invariant (c.loop-root.steps - 1) (one-back _ c.if-steps-eq0.false) _ c.seen-v.ensures c.if-v-n.false c.if-next-n.false c.loop-root-test.true refl).0

pub shape_of-way : goal.shape_of-way
shape_of-way c = omega (arith, c.loop-root.invariant.way_long, c.requires.way_long)

pub shape_of-mark : goal.shape_of-mark
shape_of-mark c = omega (arith, c.loop-root.invariant.mark-long, c.requires.mark-long)

pub returns : goal.returns
returns c = walk_ends _ _ _ _ c.loop-root.invariant c.loop-root-test.false
