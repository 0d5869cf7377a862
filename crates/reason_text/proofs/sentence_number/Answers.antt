-- `reason_text::sentence_number` meets its contract, by the variant of what is told.
use Rattle.reason_text.specs.Sentence.{sentence_number}
use Rattle.reason_text.proofs.sentence_number.Goals as goal

pub returns-in-Refused : goal.returns-in-Refused
unfolding sentence_number
returns-in-Refused c = rw c.in-Refused.is

pub returns-in-Holds : goal.returns-in-Holds
unfolding sentence_number
returns-in-Holds c = rw c.in-Holds.is

pub returns-in-NotJudged : goal.returns-in-NotJudged
unfolding sentence_number
returns-in-NotJudged c = rw c.in-NotJudged.is

pub returns-in-OwnMark : goal.returns-in-OwnMark
unfolding sentence_number
returns-in-OwnMark c = rw c.in-OwnMark.is c.kind_sentence.ensures

pub returns-in-Broken : goal.returns-in-Broken
unfolding sentence_number
returns-in-Broken c = rw c.in-Broken.is c.rule_sentence.ensures

pub returns-in-Missing : goal.returns-in-Missing
unfolding sentence_number
returns-in-Missing c = rw c.in-Missing.is c.rule_sentence-in-Missing.ensures
