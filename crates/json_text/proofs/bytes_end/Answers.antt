-- `json_text::bytes_end` meets its contract: what is left of the run from here ends where the whole run ends.
use Rattle.std.proofs.Common.{rules, arith, sym, refl, ◌∙◌}
use Rattle.json_bytes.proofs.Laws.{run_more, run-stops, run_ends}
use Rattle.json_text.specs.Run.{is_graphic, run_end}
use Rattle.json_text.proofs.bytes_end.Goals as goal

pub loop-k-init : goal.loop-k-init
unfolding run_end
loop-k-init c = (omega arith, refl)

pub loop-k-preserved : goal.loop-k-preserved
loop-k-preserved c = (
  omega arith,
  c.loop-k.invariant.1 ∙ run_more is_graphic _ _ c.loop-k-test.true (search rules),
)

pub returns-then-not-is_graphic : goal.returns-then-not-is_graphic
returns-then-not-is_graphic c = sym (c.loop-k.invariant.1 ∙ run-stops is_graphic _ _ c.loop-k-test.true (search rules))

pub returns : goal.returns
returns c = sym (c.loop-k.invariant.1 ∙ search (rules, run_ends))
