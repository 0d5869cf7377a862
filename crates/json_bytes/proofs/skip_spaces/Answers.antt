-- `json_bytes::skip_spaces` meets its contract: what is left of the run from here ends where the whole run ends.
use Rattle.std.proofs.Common.{refl, sym, ◌∙◌, arith, rules}
use Rattle.json_bytes.specs.Reads.{is_space, spaces_end}
use Rattle.json_bytes.proofs.Laws.{run_more, run-stops, run_ends}
use Rattle.json_bytes.proofs.skip_spaces.Goals as goal

pub loop-i-init : goal.loop-i-init
unfolding spaces_end
loop-i-init c = (omega arith, refl)

pub loop-i-preserved : goal.loop-i-preserved
loop-i-preserved c = (
  omega arith,
  c.loop-i.invariant.1 ∙ run_more is_space _ _ c.loop-i-test.true (search rules),
)

pub returns-then-not-is_space : goal.returns-then-not-is_space
returns-then-not-is_space c = sym (c.loop-i.invariant.1 ∙
    run-stops is_space _ _ c.loop-i-test.true (search rules))

pub returns : goal.returns
returns c = sym (c.loop-i.invariant.1 ∙ search (rules, run_ends))
