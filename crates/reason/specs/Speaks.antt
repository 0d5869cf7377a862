-- The mark that an answer speaks of. An answer that shows a rule broken gives the mark's record and companion, one for a file's
-- own mark its three numbers; a refusal speaks of none.
use Rattle.std.specs.Prelude.{ℕ, ◌<◌, ◌≡◌, true, ◌⊎◌}
use Rattle.parts.specs.Files.{File}
use Rattle.mark_numbers.specs.declared.Mark.{Mark}
use Rattle.mark_numbers.specs.Marks.{not_judged}
use Rattle.rule_shape.specs.declared.Rule.{Rule}
use Rattle.rule_shape.specs.Rule.{reads}
use Rattle.reason_answer.specs.declared.Shown.{Shown}
use Rattle.reason_answer.specs.declared.Reason.{Reason}
use Rattle.reason_answer.specs.declared.Reason.TheVariants.{Refused, Holds, NotJudged, OwnMark, Broken, Missing}
use Rattle.gate_marks.specs.Gate.{Gate}
use Rattle.gate_marks.specs.Marks.{file_mark}

abbrev pub broken_mark : Shown → Mark
broken_mark shown = record { kind = 1; place = shown.«record»; companion = shown.companion }

abbrev pub Speaks : Reason → Mark → Type 0
Speaks (Refused refusal) x = ⊥
Speaks Holds x = x.kind ≡ 0
Speaks (NotJudged file) x = x ≡ not_judged
Speaks (OwnMark kind place companion) x = (kind ≡ 0 → ⊥) × (x ≡ record { kind = kind; place = place; companion = companion })
Speaks (Broken shown) x = x ≡ broken_mark shown
Speaks (Missing shown searched) x = x ≡ broken_mark shown

-- a rule is shown broken, with a table that was searched or without
abbrev pub ShowsBroken : Reason → Shown → Type 0
ShowsBroken told shown = (told ≡ Broken shown) ⊎ ((searched : ℕ) × (told ≡ Missing shown searched))

-- a rule that is not judged names file k: "the lowest-numbered unreadable file" of those that it reads. A file that the set
-- doesn't have is one of these.
pub record NamesUnread (g : Gate) (files : ℕ → File) (rule : Rule) (k : ℕ) : Type 0 where
  pub reads-it : reads rule k ≡ true
  pub unread : k < g.files → (file_mark (g.expected k) (files k)).kind ≡ 0 → ⊥
  pub lowest : (j : ℕ) → j < k → reads rule j ≡ true → (j < g.files) × ((file_mark (g.expected j) (files j)).kind ≡ 0)
