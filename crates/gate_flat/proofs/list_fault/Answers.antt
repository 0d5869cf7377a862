-- `gate_flat::list_fault` meets its contract.
use Rattle.gate_flat.proofs.Answers.{fault-wrong, fault-short, fault-none}
use Rattle.gate_flat.proofs.list_fault.Goals as goal

pub returns-then-not-have_length : goal.returns-then-not-have_length
returns-then-not-have_length c = fault-wrong _ _ _ c.have_length.ensures c.if-not-have_length.true

pub returns-then-lent-lt1056846 : goal.returns-then-lent-lt1056846
returns-then-lent-lt1056846 c = fault-short _ _ _ c.have_length.ensures c.if-not-have_length.false c.if-lent-lt1056846.true

pub returns : goal.returns
returns c = fault-none _ _ _ c.have_length.ensures c.if-not-have_length.false c.if-lent-lt1056846.false
