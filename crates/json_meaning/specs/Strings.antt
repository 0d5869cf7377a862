-- A string as its decoded characters, where each of them is written, and the string rules over them. Document 01, "Strings":
-- "Decoded first."
use Rattle.std.specs.Prelude.{ℕ, zero, suc, ◌+◌, ◌-◌, ◌<◌, ◌≡◌, Bool, true, false, cond, not, ◌&&◌, ◌||◌, List, [], ◌∷◌, length, get_or, eqb}
use Rattle.json_bytes.specs.Reads.{byte_at}
use Rattle.json_chars.specs.Step.{step_at}
use Rattle.json_chars.specs.declared.Step.TheVariants.{Char, Close, Bad}
use Rattle.json_text.specs.Text.{barred, is_white, outside_id}
use Rattle.json_text.specs.declared.TextType.{TextType}
use Rattle.json_meaning.specs.Unicode.{is_surrogate}

-- ---- Where the characters of a string are written: the places beside the characters that `chars_at` gives
unfoldable pub char_places_from : ℕ → List ℕ → ℕ → List ℕ
char_places_from zero s i = []
char_places_from (suc f) s i = elim (step_at s i) [ Char code next ↦ i ∷ char_places_from f s next | Close ↦ [] | Bad kind place ↦ [] ]

unfoldable pub char_places_at : List ℕ → ℕ → List ℕ
char_places_at s at = cond (eqb (byte_at s at) 0x22) (char_places_from (length s) s (at + 1)) []

-- ---- Character by character, each beginning where the one before ends, up to the closing quote
abbrev pub Spelled : List ℕ → ℕ → List ℕ → List ℕ → ℕ → Type 0
Spelled s i [] [] close = (i ≡ close) × (byte_at s i ≡ 0x22)
Spelled s i [] (p ∷ ps) close = ⊥
Spelled s i (c ∷ cs) [] close = ⊥
Spelled s i (c ∷ cs) (p ∷ ps) close = (i ≡ p) × ((next : ℕ) × (step_at s i ≡ Char c next) × Spelled s next cs ps close)

-- a string that opens at a place: its characters, their places and its closing quote
pub record StringOf (s : List ℕ) (at : ℕ) (cs ps : List ℕ) (close : ℕ) : Type 0 where
  pub opens : byte_at s at ≡ 0x22
  pub spells : Spelled s (at + 1) cs ps close

-- ---- The rules of character k of the characters cs, in a field of a type
-- it stands at the start, at the end or behind a space
unfoldable pub on_edge : List ℕ → ℕ → Bool
on_edge cs k = eqb k 0 || (eqb (k + 1) (length cs) || eqb (get_or cs (k - 1) 0) 0x20)

-- document 02, order 4: "30 barred control, 31 whitespace, 32 outside the ID set, 33 unpaired surrogate"; "A wrong space is one
-- at the start, at the end, or after another space; any other whitespace is itself wrong." The type says which characters are
-- whitespace and which are in the ID set, as json_text's tables have them.
abbrev pub rules_of : TextType → ℕ → Bool → List Bool
rules_of ty c edge = barred c ∷ (is_white ty c && (edge || not (eqb c 0x20))) ∷ outside_id ty c ∷ is_surrogate c ∷ []

-- it breaks rule n of the four, which is kind 30 + n
unfoldable pub breaks_rule : TextType → List ℕ → ℕ → ℕ → Bool
breaks_rule ty cs k n = get_or (rules_of ty (get_or cs k 0) (on_edge cs k)) n false

-- "the first wrong character", and "One character with two faults takes the lower kind."
pub record FirstWrong (ty : TextType) (cs : List ℕ) (k n : ℕ) : Type 0 where
  pub inside : k < length cs
  pub here : breaks_rule ty cs k n ≡ true
  pub lowest : (m : ℕ) → m < n → breaks_rule ty cs k m ≡ false
  pub earlier : (j m : ℕ) → j < k → breaks_rule ty cs j m ≡ false
