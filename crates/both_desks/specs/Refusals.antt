-- What a call over lists answers: the numbers of both desks' answers; their marks are in the lists.
use Rattle.desks_calls.specs.Desks.{DesksAnswer}
use Rattle.both_desks.specs.declared.Refusals.{Refusals}

unfoldable pub refusals_of : DesksAnswer → Refusals
refusals_of x = record { a = x.a.refusal; b = x.b.refusal; size = x.size }
