-- `reason_text::put_lines` meets its contract: after each turn the lines of the marks below m are put.
use Prim.Native.Nat.{◌-◌}
use mathlib.Core.Path.{refl}
use native.Mathlib.Omega.{arith}
use Rattle.reason_text.proofs.Lines.{lines_start, lines_next, lines_end}
use Rattle.reason_text.proofs.put_lines.Goals as goal

pub loop-m-init : goal.loop-m-init
loop-m-init c = (lines_start _ _ _ _ _, refl, refl, omega arith)

pub loop-m-preserved : goal.loop-m-preserved
loop-m-preserved c = (lines_next _ _ _ _ _ _ c.mark_in-mark.ensures c.loop-m.invariant.0 c.put_mark-end.ensures, omega arith, omega arith, omega arith)

pub returns : goal.returns
returns c = lines_end _ _ _ _ _ _ _ (omega arith) c.loop-m.invariant.0
