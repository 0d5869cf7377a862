-- `bundle::is_laid_out` meets its contract: what is left to see at the loop's head gives what the whole gives.
use mathlib.Core.Path.{refl, sym, ◌∙◌}
use native.Mathlib.Nat.{sub-zero}
use native.Mathlib.Omega.{arith}
use Rattle.bundle_bytes.proofs.Laws.{bytes-known}
use Rattle.bundle_layout.specs.Bundle.{header_size, end_of, laid_out}
use Rattle.bundle.proofs.Laws.{length-small, end-next, end-small, laid-right, laid-wrong, laid-all}
use Rattle.bundle.proofs.is_laid_out.Goals as goal

pub loop-k-init : goal.loop-k-init
unfolding laid_out end_of header_size
loop-k-init c = (refl, rw (sub-zero c.args.n))

pub overflow_add-end-in-loop-k : goal.overflow_add-end-in-loop-k
overflow_add-end-in-loop-k c = let b = bytes-known c.args.s.now c.shared_slice_known-1.given in
    omega (arith, c.loop-k.invariant.0, end-small c.args.n c.args.s.now b c.loop-k.k, c.length_at-end.ensures, length-small c.args.s.now c.loop-k.k b)

pub loop-k-preserved : goal.loop-k-preserved
loop-k-preserved c = (rw (c.loop-k.invariant.0, c.length_at-end.ensures) (sym (end-next _ _ c.loop-k.k)), c.loop-k.invariant.1 ∙ laid-right _ _ _ _ (omega arith) c.loop-k.invariant.0 (sym c.stands_right.ensures ∙ c.if-not-stands_right.false))

pub returns-then-not-stands_right : goal.returns-then-not-stands_right
returns-then-not-stands_right c = sym (c.loop-k.invariant.1 ∙ laid-wrong _ _ _ _ (omega arith) c.loop-k.invariant.0 (sym c.stands_right.ensures ∙ c.if-not-stands_right.true))

pub returns : goal.returns
returns c = sym (c.loop-k.invariant.1 ∙ laid-all _ _ _ _ (omega arith) c.loop-k.invariant.0)
