-- What is told of a mark (document 02, order 6) as nine numbers, for programs in other languages.
use Rattle.std.specs.Prelude.{ℕ, cond, List, [], ◌∷◌, length, eqb}
use Rattle.reason_answer.specs.declared.Shown.{Shown}
use Rattle.reason_answer.specs.declared.Reason.{Reason}
use Rattle.reason_answer.specs.declared.Reason.TheVariants.{Refused, Holds, NotJudged, OwnMark, Broken, Missing}

-- Each number has one meaning, and is 0 in an answer that has no such thing:
--   0           which answer: 0 it holds, 1 not judged, 2 a file's own mark, 3 a broken rule, 4 one broken for want of a target
--   1, 2, 3     the mark's kind, place and companion, as a board has them
--   4           the file of the record; of a rule that is not judged the unreadable file
--   5           the deciding field, counted within its table
--   6, 7        where its value starts in the bundle, and how long it is
--   8           the file searched for the target
unfoldable pub shown_numbers : ℕ → Shown → ℕ → List ℕ
shown_numbers answer x searched =
    answer ∷ 1 ∷ x.«record» ∷ x.companion ∷ x.file ∷ x.field ∷ x.start ∷ x.length ∷ searched ∷ []

unfoldable pub told_numbers : Reason → List ℕ
told_numbers Holds = 0 ∷ 0 ∷ 0 ∷ 0 ∷ 0 ∷ 0 ∷ 0 ∷ 0 ∷ 0 ∷ []
told_numbers (NotJudged file) = 1 ∷ 2 ∷ 0 ∷ 0 ∷ file ∷ 0 ∷ 0 ∷ 0 ∷ 0 ∷ []
told_numbers (OwnMark kind place companion) = 2 ∷ kind ∷ place ∷ companion ∷ 0 ∷ 0 ∷ 0 ∷ 0 ∷ 0 ∷ []
told_numbers (Broken shown) = shown_numbers 3 shown 0
told_numbers (Missing shown searched) = shown_numbers 4 shown searched
-- a refusal tells nothing of the mark, and no caller is handed these
told_numbers (Refused refusal) = 0 ∷ 0 ∷ 0 ∷ 0 ∷ 0 ∷ 0 ∷ 0 ∷ 0 ∷ 0 ∷ []

-- a list of nine gets these numbers; any other is as it was
unfoldable pub told_over : Reason → List ℕ → List ℕ
told_over told list = cond (eqb (length list) 9) (told_numbers told) list
