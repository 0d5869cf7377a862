-- Worked cases of the string rules, computed from the definitions: document 02, order 2, and what it leaves as it was.
-- Assumes nothing.
use Rattle.std.proofs.Common.{◌≡◌, ℕ, List, [], ◌∷◌, map, refl}
use Rattle.json_text.specs.Text.{wrong_at}
use Rattle.json_text.specs.declared.TextType.{TextType}
use Rattle.json_text.specs.declared.TextType.TheVariants.{Text, String, StringID}
use Rattle.json_text.proofs.Opens.{open-text}

-- each with what it is to show
abbrev texts : List (List ℕ)
texts =
    (34 ∷ 65 ∷ 32 ∷ 66 ∷ 34 ∷ []) ∷  -- `"A B"`, a single inner space
    (34 ∷ 65 ∷ 32 ∷ 32 ∷ 66 ∷ 34 ∷ []) ∷  -- `"A  B"`, a space behind a space
    (34 ∷ 65 ∷ 92 ∷ 116 ∷ 66 ∷ 34 ∷ []) ∷  -- `"A\tB"`, one of the four
    (34 ∷ 65 ∷ 0xC2 ∷ 0xA0 ∷ 66 ∷ 34 ∷ []) ∷  -- U+00A0 within, the no-break space of a word processor
    (34 ∷ 65 ∷ 92 ∷ 117 ∷ 51 ∷ 48 ∷ 48 ∷ 48 ∷ 66 ∷ 34 ∷ []) ∷  -- `"A\u3000B"`, the last of the 25, escaped
    (34 ∷ 65 ∷ 0xE2 ∷ 0x80 ∷ 0x8B ∷ 66 ∷ 34 ∷ []) ∷  -- U+200B, right behind a run, is no whitespace
    (34 ∷ 65 ∷ 92 ∷ 117 ∷ 48 ∷ 48 ∷ 48 ∷ 66 ∷ 34 ∷ []) ∷  -- `"A\u000B"`, one of the 25 and barred: the lower number
    []

-- the first wrong character of a text: its rule and its place
abbrev wrong_in : TextType → List ℕ → ℕ × ℕ
wrong_in ty s = ((wrong_at ty s 0).rule, (wrong_at ty s 0).place)

pub in-string : map (wrong_in String) texts ≡ ((0, 0) ∷ (2, 3) ∷ (2, 2) ∷ (2, 2) ∷ (2, 2) ∷ (0, 0) ∷ (1, 2) ∷ [])
unfolding open-text
in-string = refl

pub in-id : map (wrong_in StringID) texts ≡ ((0, 0) ∷ (2, 3) ∷ (2, 2) ∷ (3, 2) ∷ (3, 2) ∷ (3, 2) ∷ (1, 2) ∷ [])
unfolding open-text
in-id = refl

pub in-text : map (wrong_in Text) texts ≡ ((0, 0) ∷ (0, 0) ∷ (0, 0) ∷ (0, 0) ∷ (0, 0) ∷ (0, 0) ∷ (1, 2) ∷ [])
unfolding open-text
in-text = refl
