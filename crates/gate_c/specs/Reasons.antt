-- What is told of a mark to other programs (document 02, order 6), and the name by which they print its field.
use Rattle.std.specs.Prelude.{ℕ, cond, List, [], length, eqb, ltb}
use Rattle.reason_answer.specs.declared.Reason.{Reason}
use Rattle.reason_answer.specs.declared.Reason.TheVariants.{Refused}
use Rattle.gate_calls.specs.Reasons.{reason_asked}
use Rattle.gate_names.specs.Names.{field_name_of}
use Rattle.gate_c.specs.Calls.{which_of, gate_numbered}

-- the answer over a list for its nine numbers and a workspace of so many: 103, then 100 where the list is not of nine, before all
-- else
unfoldable pub reason_called : ℕ → List ℕ → ℕ → List ℕ → ℕ → Reason
reason_called gate s mark told lent =
    cond (ltb 2 gate) (Refused 103) (cond (eqb (length told) 9) (reason_asked (gate_numbered gate) s lent mark) (Refused 100))

-- a field's name by the number of its file and its own; nothing where there is no such gate or field
unfoldable pub field_named : ℕ → ℕ → ℕ → List ℕ
field_named gate file field = cond (ltb 2 gate) [] (field_name_of (which_of gate) file field)
