-- `text_place::line_and_column` meets its contract. The walk keeps the spot behind the bytes that it has passed.
use mathlib.Core.Path.{◌≡◌, sym, ap, ◌∙◌}
use native.Mathlib.Omega.{arith}
use lib.Dec.{ltb}
use lib.ListN.{length}
use Rattle.std.proofs.Common.{cond}
use Rattle.std.proofs.lemmas.List.{length-take}
use Rattle.text_place.specs.Place.{spot_behind, spot_at}
use Rattle.text_place.proofs.Laws.{at-start, at-feed, at-rest, at-first, spot_is, cut-place}
use Rattle.text_place.proofs.line_and_column.Goals as goal
use Rattle.text_place.proofs.line_and_column.Goals.{then-is_line_feed, else-is_line_feed+then-not-is_continuation, else-is_line_feed+else-not-is_continuation}

pub loop-b-init : goal.loop-b-init
loop-b-init c = (at-start _, omega arith, omega arith)

pub loop-b-preserved : goal.loop-b-preserved
loop-b-preserved c =
    let at = c.loop-b.invariant.0 in
    elim c.if-is_line_feed.branch [
      | then-is_line_feed w ↦ (at-feed _ _ _ c.loop-b-test.true at (sym c.is_line_feed.ensures ∙ w.if-is_line_feed.true) w.line-is w.column-is, omega arith, omega arith)
      | else-is_line_feed+then-not-is_continuation w ↦ (at-first _ _ _ c.loop-b-test.true at (sym c.is_line_feed.ensures ∙ w.if-is_line_feed.false) (sym w.is_continuation.ensures ∙ w.if-not-is_continuation.true) w.line-is w.column-is, omega arith, omega arith)
      | else-is_line_feed+else-not-is_continuation w ↦ (at-rest _ _ _ c.loop-b-test.true at (sym c.is_line_feed.ensures ∙ w.if-is_line_feed.false) (sym w.is_continuation.ensures ∙ w.if-not-is_continuation.false) w.line-is w.column-is, omega arith, omega arith)
    ]

pub returns : goal.returns
unfolding spot_at
returns c = let s = c.args.s.now in
    let all : c.loop-b.b-index ≡ cond (ltb c.args.place (length s)) c.args.place (length s) = omega (arith, length-take c.min-end.result s, cut-place c.args.place (length s)) in
    spot_is s c.loop-b.invariant.0 ∙ ap (spot_behind s) all
