-- Which kinds a step of a string can give: 10 and 11.
-- Assumes nothing.
use Rattle.std.specs.Prelude.{Ok, Err}
use Prim.Native.Nat.{ℕ, ◌+◌}
use mathlib.Core.Path.{◌≡◌, refl}
use mathlib.Core.List.{List, [], ◌∷◌, map}
use lib.Dec.{ltb, eqb}
use Rattle.json_bytes.specs.Reads.{byte_at}
use Rattle.json_bytes.proofs.Laws.{either}
use Rattle.json_bytes.proofs.FaultKinds.{In}
use Rattle.json_chars.specs.Step.{is_two, is_three, is_four, sequence_of, sequence_at, letter_escape, unit_at, escaped_at, is_pair, surrogates_joined, escape_at, step_at, Unit16}
use Rattle.json_chars.specs.declared.Step.{Step}
use Rattle.json_chars.specs.declared.Step.TheVariants.{Char, Close, Bad}
use Rattle.json_chars.proofs.Opens.{open-chars}

abbrev pub step_kinds : List ℕ
step_kinds = 10 ∷ 11 ∷ []

abbrev pub StepFaults : List ℕ → Step → Type 0
StepFaults ks (Char code next) = Unit {0}
StepFaults ks Close = Unit {0}
StepFaults ks (Bad kind place) = In ks kind

module _ (s : List ℕ) (i : ℕ) where
  abbrev Known : Step → Type 0
  Known = StepFaults step_kinds

  joined-kinds : (u : Unit16) → Known (surrogates_joined s i u)
  unfolding surrogates_joined
  joined-kinds (Err place) = refl
  joined-kinds (Ok u) = either Known (is_pair u (escaped_at s (i + 6))) _ _ tt tt

  escape-kinds : Known (escape_at s i)
  unfolding escape_at
  escape-kinds =
      either Known (eqb (byte_at s (i + 1)) 117) _ _ (joined-kinds (unit_at s (i + 2)))
      (either Known (ltb 0 (letter_escape (byte_at s (i + 1)))) _ _ tt refl)

  sequence-kinds : Known (sequence_at s i)
  unfolding sequence_at sequence_of
  sequence-kinds =
      either Known (is_two _ _) _ _ tt (either Known (is_three _ _ _) _ _ tt (either Known (is_four _ _ _ _) _ _ tt refl))

  pub step-kinds : StepFaults step_kinds (step_at s i)
  unfolding step_at
  step-kinds =
      either Known (ltb (byte_at s i) 32) _ _ refl
      (either Known (eqb (byte_at s i) 34) _ _ tt
      (either Known (eqb (byte_at s i) 92) _ _ escape-kinds (either Known (ltb (byte_at s i) 128) _ _ tt sequence-kinds)))

-- each is given: a byte that begins no sequence, and the end of the file
pub step_given : map (λ s. step_at s 0) ((0xFF ∷ []) ∷ [] ∷ []) ≡ map (λ kind. Bad kind 0) step_kinds
unfolding open-chars
step_given = refl
