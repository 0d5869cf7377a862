-- `gate_flat::output_fault` meets its contract.
use borrow.Author.Tests.{eq-eqb, ne_eqb, lt-ltb, le-ltb}
use Rattle.gate_flat.proofs.output_fault.Goals as goal

pub returns-then-refusal-ne0 : goal.returns-then-refusal-ne0
returns-then-refusal-ne0 c = rw (ne_eqb _ 0 c.if-refusal-ne0.true)

pub returns-then-room-tried : goal.returns-then-room-tried
returns-then-room-tried c = rw (eq-eqb _ 0 c.if-refusal-ne0.false, lt-ltb _ _ c.if-room-tried.true)

pub returns : goal.returns
returns c = rw (eq-eqb _ 0 c.if-refusal-ne0.false, le-ltb _ _ c.if-room-tried.false)
