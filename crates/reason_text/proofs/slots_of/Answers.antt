-- `reason_text::slots_of` meets its contract, by the variant of what is told.
use Rattle.reason_text.specs.Sentence.{slots_of}
use Rattle.reason_text.proofs.slots_of.Goals as goal

pub returns-in-Refused : goal.returns-in-Refused
unfolding slots_of
returns-in-Refused c = rw c.in-Refused.is c.file_slots.ensures

pub returns-in-Holds : goal.returns-in-Holds
unfolding slots_of
returns-in-Holds c = rw c.in-Holds.is c.file_slots-in-Holds.ensures

pub returns-in-NotJudged : goal.returns-in-NotJudged
unfolding slots_of
returns-in-NotJudged c = rw c.in-NotJudged.is c.file_slots-in-NotJudged.ensures

pub returns-in-OwnMark : goal.returns-in-OwnMark
unfolding slots_of
returns-in-OwnMark c = rw c.in-OwnMark.is c.own_slots.ensures

pub returns-in-Broken : goal.returns-in-Broken
unfolding slots_of
returns-in-Broken c = rw c.in-Broken.is c.shown_slots.ensures

pub returns-in-Missing : goal.returns-in-Missing
unfolding slots_of
returns-in-Missing c = rw c.in-Missing.is c.shown_slots-in-Missing.ensures
