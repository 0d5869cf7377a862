-- A string read whole, and the string rules of document 01: "Decoded first. U+0000–0008, 000B–000C, 000E–001F and 007F
-- are barred, as are unpaired surrogate escapes. String and StringID: no whitespace but single inner spaces. StringID:
-- U+0020–007E only. Text: no whitespace rule." What counts as whitespace is document 02's, order 2.
use Rattle.std.specs.Prelude.{ℕ, zero, suc, ◌+◌, Bool, true, false, cond, not, ◌&&◌, ◌||◌, List, [], ◌∷◌, length, ◌==◌, nat_lt, slice_index, Ok}
use Rattle.json_bytes.specs.Reads.{byte_at, within, Reading, fault_at}
use Rattle.json_chars.specs.Step.{step_at}
use Rattle.json_chars.specs.declared.Step.TheVariants.{Char, Close, Bad}
use Rattle.json_text.specs.declared.TextType.{TextType}
use Rattle.json_text.specs.declared.TextType.TheVariants.{Text, String, StringID}
use Rattle.json_text.specs.declared.Wrong.{Wrong}
use Rattle.json_text.specs.declared.TextRead.{TextRead}

-- ---- Reading it whole: the place behind its closing quote, or the fault of the first step that cannot go on
unfoldable pub text_from : ℕ → List ℕ → ℕ → Reading
text_from zero s i = fault_at 11 i
text_from (suc f) s i =
    elim (step_at s i) [ Char code next ↦ text_from f s next | Close ↦ Ok (i + 1) | Bad kind place ↦ fault_at kind place ]

-- a string begins with a quote; each character takes a byte at least, so that the length of the file is fuel enough
unfoldable pub text_read_at : List ℕ → ℕ → Reading
text_read_at s at = cond (byte_at s at == 34) (text_from (length s) s (at + 1)) (fault_at 11 at)

-- ---- The rules of a character
unfoldable pub barred : ℕ → Bool
barred c = within 0 8 c || (within 0xB 0xC c || (within 0xE 0x1F c || c == 0x7F))

-- Whitespace stands in tables of runs, each run its first and its last code. Document 02, order 2: "Unicode's White_Space
-- list has 25: U+0009–000D, 0020, 0085, 00A0, 1680, 2000–200A, 2028, 2029, 202F, 205F and 3000. String follows that list
-- from now on; StringID keeps the four."
abbrev pub up_to : ℕ → ℕ → List ℕ
up_to first last = first ∷ last ∷ []

abbrev pub only : ℕ → List ℕ
only code = code ∷ code ∷ []

unfoldable pub white_space : List (List ℕ)
white_space =
    up_to 0x9 0xD ∷
    only 0x20 ∷
    only 0x85 ∷
    only 0xA0 ∷
    only 0x1680 ∷
    up_to 0x2000 0x200A ∷
    up_to 0x2028 0x2029 ∷
    only 0x202F ∷
    only 0x205F ∷
    only 0x3000 ∷
    []

-- the four of document 01: "whitespace is U+0009, 000A, 000D and 0020"
unfoldable pub blanks : List (List ℕ)
blanks = up_to 0x9 0xA ∷ only 0xD ∷ only 0x20 ∷ []

unfoldable pub spaces_of : TextType → List (List ℕ)
spaces_of Text = []
spaces_of String = white_space
spaces_of StringID = blanks

unfoldable pub in_runs : List (List ℕ) → ℕ → Bool
in_runs [] c = false
in_runs (run ∷ runs) c = within (slice_index run 0) (slice_index run 1) c || in_runs runs c

unfoldable pub is_white : TextType → ℕ → Bool
is_white ty c = in_runs (spaces_of ty) c

-- whitespace other than a space is wrong anywhere, and a space at an edge: at the start, at the end, or behind a space
unfoldable pub wrong_space : TextType → ℕ → Bool → Bool
wrong_space ty c edge = is_white ty c && (edge || not (c == 32))

unfoldable pub outside_id : TextType → ℕ → Bool
outside_id Text c = false
outside_id String c = false
outside_id StringID c = not (within 0x20 0x7E c)

-- the rule that a character breaks: 1 barred control, 2 whitespace, 3 outside the ID set, 4 unpaired surrogate, 0 none;
-- the lower number where it breaks two
unfoldable pub rule_broken : TextType → ℕ → Bool → ℕ
rule_broken ty c edge =
    cond (barred c) 1 (cond (wrong_space ty c edge) 2 (cond (outside_id ty c) 3 (cond (within 0xD800 0xDFFF c) 4 0)))

-- ---- The first character that breaks a rule: which rule, and where the character stands as written; rule 0 for none
unfoldable pub none : Wrong
none = record { rule = 0; place = 0 }

unfoldable pub wrong_here : ℕ → ℕ → Wrong
wrong_here rule i = cond (nat_lt 0 rule) (record { rule = rule; place = i }) none

-- the first where it is one, else the second
unfoldable pub first_wrong : Wrong → Wrong → Wrong
first_wrong w v = cond (nat_lt 0 w.rule) w v

-- a character stands at the end where the closing quote follows it
unfoldable pub closes_at : List ℕ → ℕ → Bool
closes_at s next = byte_at s next == 34

unfoldable pub wrong_from : ℕ → TextType → List ℕ → ℕ → Bool → Wrong
wrong_from zero ty s i edge = none
wrong_from (suc f) ty s i edge =
    elim (step_at s i) [
      | Char code next ↦ first_wrong (wrong_here (rule_broken ty code (edge || closes_at s next)) i) (wrong_from f ty s next (code == 32))
      | Close ↦ none
      | Bad kind place ↦ none
    ]

unfoldable pub wrong_at : TextType → List ℕ → ℕ → Wrong
wrong_at ty s at = cond (byte_at s at == 34) (wrong_from (length s) ty s (at + 1) true) none

-- ---- Both, in one pass
unfoldable pub text_read : TextType → List ℕ → ℕ → TextRead
text_read ty s at = record { reading = text_read_at s at; wrong = wrong_at ty s at }
