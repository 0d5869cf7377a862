-- `reason_text::keeper_of` meets its contract, by the variant of what is told.
use Rattle.reason_text.specs.Text.{keeper_of}
use Rattle.reason_text.proofs.Keepers.{no-keeper}
use Rattle.reason_text.proofs.keeper_of.Goals as goal

pub returns-in-NotJudged : goal.returns-in-NotJudged
unfolding keeper_of
returns-in-NotJudged c = rw c.in-NotJudged.is

pub returns-in_default : goal.returns-in_default
returns-in_default c = no-keeper _ _ c.in_default.not-NotJudged
