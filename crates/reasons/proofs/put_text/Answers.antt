-- `reasons::put_text` meets its contract: the text of the bundle, or of one that is too long.
use Prim.Native.Nat.{ℕ}
use mathlib.Core.Path.{sym}
use lib.ListN.{length-replicate}
use Rattle.json_bytes.specs.Ascii.{codes}
use Rattle.reasons.proofs.Laws.{too_long, text-read}
use Rattle.reasons.proofs.put_text.Goals as goal

pub returns-then-bundle-gt65536 : goal.returns-then-bundle-gt65536
unfolding codes
returns-then-bundle-gt65536 c = too_long _ _ _ c.if-bundle-gt65536.true c.put_counted.ensures

pub slice_bounds-reasons-end : goal.slice_bounds-reasons-end
slice_bounds-reasons-end c = sym (length-replicate {A = ℕ} 794702 0)

pub shape_of-out : goal.shape_of-out
shape_of-out c = c.reasons.auto.out

pub returns : goal.returns
returns c = text-read c.args.which c.args.bundle.now c.args.out.now _ c.if-bundle-gt65536.false (length-replicate {A = ℕ} 794702 0) c.reasons.ensures.value c.reasons.ensures.out_after
