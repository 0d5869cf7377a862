-- `gate_option::gate_named` meets its contract: the words that were compared decide the definition.
use Rattle.json_bytes.specs.Ascii.{codes}
use Rattle.gate_option.proofs.Laws.{names-baseline, names-contract, names-nothing}
use Rattle.gate_option.proofs.gate_named.Goals as goal

pub returns-then-same : goal.returns-then-same
unfolding codes
returns-then-same c = names-baseline _ c.same.ensures c.if-same.true

pub returns-then-same-2 : goal.returns-then-same-2
unfolding codes
returns-then-same-2 c = names-contract _ c.same.ensures c.same-2.ensures c.if-same.false c.if-same-2.true

pub returns : goal.returns
unfolding codes
returns c = names-nothing _ c.same.ensures c.same-2.ensures c.if-same.false c.if-same-2.false
