-- For the code's sake alone: an escape of four digits that stands for a character which breaks no rule of any type.
use Rattle.std.specs.Prelude.{◌≡◌, ℕ, ◌+◌, true, List}
use Rattle.json_bytes.specs.Reads.{within}
use Rattle.json_chars.specs.Step.{step_at}
use Rattle.json_chars.specs.declared.Step.TheVariants.{Char}

-- its backslash stands at j
pub record PlainEscape (s : List ℕ) (j : ℕ) : Type 0 where
  pub code : ℕ
  pub step : step_at s j ≡ Char code (j + 6)
  pub graphic : within 0x21 0x7E code ≡ true
