-- `reason_text::one_where_same` meets its contract.
use native.Mathlib.Omega.{arith}
use borrow.Author.Tests.{eq-eqb, ne_eqb}
use Rattle.reason_text.proofs.one_where_same.Goals as goal

pub returns-then-keeper-file : goal.returns-then-keeper-file
returns-then-keeper-file c = (rw (eq-eqb _ _ c.if-keeper-file.true), omega arith)

pub returns : goal.returns
returns c = (rw (ne_eqb _ _ c.if-keeper-file.false), omega arith)
