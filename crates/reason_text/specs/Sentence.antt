-- The sentence beside a mark of a gate, from what is told of it: document 02, order 6.
use Rattle.std.specs.Prelude.{ℕ, List}
use Rattle.parts.specs.Files.{bytes_of}
use Rattle.text_place.specs.declared.Spot.{Spot}
use Rattle.text_place.specs.Place.{spot_at}
use Rattle.bundle_layout.specs.Bundle.{file_at}
use Rattle.reason_answer.specs.declared.Shown.{Shown}
use Rattle.reason_answer.specs.declared.Reason.{Reason}
use Rattle.reason_answer.specs.declared.Reason.TheVariants.{Refused, Holds, NotJudged, OwnMark, Broken, Missing}
use Rattle.gate_calls.specs.Reasons.{value_shown}
use Rattle.gate_lists.specs.declared.Which.{Which}
use Rattle.wording.specs.declared.Slots.{Slots}
use Rattle.wording.specs.Sentences.{sentence_at, of_rule, of_kind, not_judged_sentence, nothing}
use Rattle.wording.specs.Wording.{filled}

-- which sentence it is, of mark m; none for one that holds
unfoldable pub sentence_number : Which → ℕ → Reason → ℕ
sentence_number which m (Refused refusal) = nothing
sentence_number which m Holds = nothing
sentence_number which m (NotJudged file) = not_judged_sentence
sentence_number which m (OwnMark kind place companion) = of_kind which kind
sentence_number which m (Broken shown) = of_rule which m
sentence_number which m (Missing shown searched) = of_rule which m

-- ---- What stands in its slots; 0 where a sentence has no such slot
-- a file and a count
abbrev pub file_slots : ℕ → ℕ → Slots
file_slots file n =
    record { file = file; «record» = n; companion = 0; field = 0; searched = 0; line = 0; column = 0 }

-- of a file's own mark its companion is the record in which the fault stands
abbrev pub own_slots : ℕ → ℕ → Spot → Slots
own_slots file companion spot =
    record { file = file; «record» = companion; companion = 0; field = 0; searched = 0; line = spot.line; column = spot.column }

abbrev pub shown_slots : Shown → ℕ → Slots
shown_slots shown searched =
    record { file = shown.file; «record» = shown.«record»; companion = shown.companion; field = shown.field; searched = searched; line = 0; column = 0 }

unfoldable pub slots_of : List ℕ → ℕ → Reason → Slots
slots_of s m (Refused refusal) = file_slots 0 0
slots_of s m Holds = file_slots 0 0
slots_of s m (NotJudged file) = file_slots file 0
slots_of s m (OwnMark kind place companion) = own_slots m companion (spot_at (bytes_of (file_at s m)) place)
slots_of s m (Broken shown) = shown_slots shown 0
slots_of s m (Missing shown searched) = shown_slots shown searched

unfoldable pub sentence_of : Which → List ℕ → ℕ → Reason → List ℕ
sentence_of which s m told = filled which (slots_of s m told) (value_shown s told) (sentence_at (sentence_number which m told))
