-- `loop_text::front` meets its contract, by whether the list is as long.
-- Assumes nothing.
use mathlib.Core.Path.{sym}
use native.Mathlib.Omega.{arith}
use lib.Seq.{take_all, length-take-le}
use Rattle.loop_text.proofs.front.Goals as goal

pub returns-then-list-m : goal.returns-then-list-m
returns-then-list-m c = sym (take_all c.args.m c.args.list.now (omega arith))

pub slice_bounds-result-end : goal.slice_bounds-result-end
slice_bounds-result-end c = sym (length-take-le _ _ (omega arith))
