-- `link_loops::show_links` meets its contract: lists of its own hold the walk.
-- Assumes nothing.
use Prim.Native.Nat.{ℕ}
use mathlib.Core.Path.{sym, ◌∙◌}
use native.Mathlib.Omega.{arith}
use lib.ListN.{length-replicate}
use lib.Seq.{length-take-le}
use Rattle.link_loops.proofs.Shown.{too_many, unequal, too_short, not-below, blank, links-shown}
use Rattle.link_loops.proofs.show_links.Goals as goal

pub returns-then-n-gt4096 : goal.returns-then-n-gt4096
returns-then-n-gt4096 c = too_many _ _ _ c.if-n-gt4096.true

pub returns-then-to-n : goal.returns-then-to-n
returns-then-to-n c = unequal _ _ _ c.if-n-gt4096.false c.if-to-n.true

pub returns-then-list-n : goal.returns-then-list-n
returns-then-list-n c = too_short _ _ _ c.if-n-gt4096.false c.if-to-n.false c.if-list-n.true

pub returns-then-not-all_below : goal.returns-then-not-all_below
returns-then-not-all_below c = not-below _ _ _ c.if-n-gt4096.false c.if-to-n.false c.if-list-n.false (sym c.all_below.ensures ∙ c.if-not-all_below.true)

pub slice_bounds-show_in-end : goal.slice_bounds-show_in-end
slice_bounds-show_in-end c = sym (length-take-le _ _ (omega (arith, length-replicate {A = ℕ} 4096 4096)))

pub slice_bounds-show_in-end-2 : goal.slice_bounds-show_in-end-2
slice_bounds-show_in-end-2 c = sym (length-take-le _ _ (omega (arith, length-replicate {A = ℕ} 4096 0)))

pub slice_bounds-show_in-end-3 : goal.slice_bounds-show_in-end-3
slice_bounds-show_in-end-3 c = sym (length-take-le _ _ (omega (arith, length-replicate {A = ℕ} 4096 0)))

pub slice_bounds-show_in-end-4 : goal.slice_bounds-show_in-end-4
slice_bounds-show_in-end-4 c = sym (length-take-le _ _ (omega (arith, length-replicate {A = ℕ} 4096 0)))

pub show_in-requires : goal.show_in-requires
show_in-requires c = blank _ _ _ 4096 c.if-n-gt4096.false (omega arith) c.if-to-n.false c.if-list-n.false (sym c.all_below.ensures ∙ c.if-not-all_below.false)

pub returns : goal.returns
returns c = links-shown _ _ _ c.if-n-gt4096.false c.if-to-n.false c.if-list-n.false (sym c.all_below.ensures ∙ c.if-not-all_below.false) _ _ c.show_in.ensures
