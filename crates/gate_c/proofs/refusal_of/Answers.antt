-- `gate_c::refusal_of` meets its contract, by the variant of the answer.
use Rattle.gate_calls.specs.Reasons.{refusal_of}
use Rattle.gate_c.proofs.refusal_of.Goals as goal

pub returns-in-Refused : goal.returns-in-Refused
unfolding refusal_of
returns-in-Refused c = rw c.in-Refused.is

pub returns-in-Holds : goal.returns-in-Holds
unfolding refusal_of
returns-in-Holds c = rw c.in-Holds.is

pub returns-in-NotJudged : goal.returns-in-NotJudged
unfolding refusal_of
returns-in-NotJudged c = rw c.in-NotJudged.is

pub returns-in-OwnMark : goal.returns-in-OwnMark
unfolding refusal_of
returns-in-OwnMark c = rw c.in-OwnMark.is

pub returns-in-Broken : goal.returns-in-Broken
unfolding refusal_of
returns-in-Broken c = rw c.in-Broken.is

pub returns-in-Missing : goal.returns-in-Missing
unfolding refusal_of
returns-in-Missing c = rw c.in-Missing.is
