-- JSON as ECMA-404 (second edition, December 2017) has it, over the bytes of its UTF-8 form.
-- `X l r` says that the bytes l begin with an X, and that r is what stands behind it. Bytes are written as the standard writes
-- code points. No reader is named here: the crates above prove that the readers read this grammar and no other.
use Rattle.std.specs.Prelude.{ℕ, ◌+◌, ◌*◌, ◌-◌, ◌≤◌, ◌≢◌, Bool, cond, ◌&&◌, List, [], ◌∷◌, ◌++◌, leb}

abbrev pub Bytes : Type 0
Bytes = List ℕ

abbrev pub From : ℕ → ℕ → ℕ → Type 0
From lowest highest b = (lowest ≤ b) × (b ≤ highest)

-- ---- Section 4: white space, of any length, and the three literal names
pub data Blank : ℕ → Type 0 where
  character_tabulation : Blank 0x09
  line_feed : Blank 0x0A
  carriage_return : Blank 0x0D
  space : Blank 0x20

pub data Spaces : Bytes → Bytes → Type 0 where
  no_space : {l : Bytes} → Spaces l l
  one_more : {b : ℕ} {l r : Bytes} → Blank b → Spaces l r → Spaces (b ∷ l) r

pub data Literal : Bytes → Bytes → Type 0 where
  is_true : {r : Bytes} → Literal (0x74 ∷ 0x72 ∷ 0x75 ∷ 0x65 ∷ r) r
  is_false : {r : Bytes} → Literal (0x66 ∷ 0x61 ∷ 0x6C ∷ 0x73 ∷ 0x65 ∷ r) r
  is_null : {r : Bytes} → Literal (0x6E ∷ 0x75 ∷ 0x6C ∷ 0x6C ∷ r) r

-- ---- Section 8, numbers: decimal digits without a superfluous zero before them
pub data Digits : Bytes → Bytes → Type 0 where
  last_digit : {d : ℕ} {r : Bytes} → From 0x30 0x39 d → Digits (d ∷ r) r
  more_digits : {d : ℕ} {l r : Bytes} → From 0x30 0x39 d → Digits l r → Digits (d ∷ l) r

pub data Whole : Bytes → Bytes → Type 0 where
  zero_alone : {r : Bytes} → Whole (0x30 ∷ r) r
  no_zero_first : {d : ℕ} {l r : Bytes} → From 0x31 0x39 d → Digits (d ∷ l) r → Whole (d ∷ l) r

-- perhaps a minus sign before them
pub data Minus : Bytes → Bytes → Type 0 where
  no_minus : {l : Bytes} → Minus l l
  minus_sign : {l : Bytes} → Minus (0x2D ∷ l) l

-- perhaps a decimal point and digits
pub data Fraction : Bytes → Bytes → Type 0 where
  no_fraction : {l : Bytes} → Fraction l l
  decimal_point : {l r : Bytes} → Digits l r → Fraction (0x2E ∷ l) r

-- perhaps an exponent: e or E, perhaps a sign, and digits
pub data Sign : Bytes → Bytes → Type 0 where
  no_sign : {l : Bytes} → Sign l l
  plus_sign : {l : Bytes} → Sign (0x2B ∷ l) l
  negative : {l : Bytes} → Sign (0x2D ∷ l) l

pub data Exponent : Bytes → Bytes → Type 0 where
  no_exponent : {l : Bytes} → Exponent l l
  lower_e : {l m r : Bytes} → Sign l m → Digits m r → Exponent (0x65 ∷ l) r
  upper_e : {l m r : Bytes} → Sign l m → Digits m r → Exponent (0x45 ∷ l) r

pub data Number : Bytes → Bytes → Type 0 where
  parts : {l m n o r : Bytes} → Minus l m → Whole m n → Fraction n o → Exponent o r → Number l r

-- ---- The Unicode Standard, table 3-7: the well-formed sequences of two to four bytes, row by row; table 3-6: their code
abbrev pub Tail : ℕ → Type 0
Tail = From 0x80 0xBF

abbrev pub two : ℕ → ℕ → ℕ
two a b = (a - 0xC0) * 0x40 + (b - 0x80)

abbrev pub three : ℕ → ℕ → ℕ → ℕ
three a b c = (a - 0xE0) * 0x1000 + (b - 0x80) * 0x40 + (c - 0x80)

abbrev pub four : ℕ → ℕ → ℕ → ℕ → ℕ
four a b c d = (a - 0xF0) * 0x40000 + (b - 0x80) * 0x1000 + (c - 0x80) * 0x40 + (d - 0x80)

pub data Sequence : Bytes → ℕ → Bytes → Type 0 where
  from_c2 : {a b : ℕ} {r : Bytes} → From 0xC2 0xDF a → Tail b → Sequence (a ∷ b ∷ r) (two a b) r
  at_e0 : {b c : ℕ} {r : Bytes} → From 0xA0 0xBF b → Tail c → Sequence (0xE0 ∷ b ∷ c ∷ r) (three 0xE0 b c) r
  from_e1 : {a b c : ℕ} {r : Bytes} → From 0xE1 0xEC a → Tail b → Tail c → Sequence (a ∷ b ∷ c ∷ r) (three a b c) r
  at_ed : {b c : ℕ} {r : Bytes} → From 0x80 0x9F b → Tail c → Sequence (0xED ∷ b ∷ c ∷ r) (three 0xED b c) r
  from_ee : {a b c : ℕ} {r : Bytes} → From 0xEE 0xEF a → Tail b → Tail c → Sequence (a ∷ b ∷ c ∷ r) (three a b c) r
  at_f0 : {b c d : ℕ} {r : Bytes} → From 0x90 0xBF b → Tail c → Tail d → Sequence (0xF0 ∷ b ∷ c ∷ d ∷ r) (four 0xF0 b c d) r
  from_f1 : {a b c d : ℕ} {r : Bytes} → From 0xF1 0xF3 a → Tail b → Tail c → Tail d → Sequence (a ∷ b ∷ c ∷ d ∷ r) (four a b c d) r
  at_f4 : {b c d : ℕ} {r : Bytes} → From 0x80 0x8F b → Tail c → Tail d → Sequence (0xF4 ∷ b ∷ c ∷ d ∷ r) (four 0xF4 b c d) r

-- ---- Section 9, strings: a character as written, with its code
-- the escapes of two characters, by their second, with the character that each stands for
pub data Letter : ℕ → ℕ → Type 0 where
  quotation_mark : Letter 0x22 0x22
  reverse_solidus : Letter 0x5C 0x5C
  solidus : Letter 0x2F 0x2F
  backspace : Letter 0x62 0x08
  form_feed : Letter 0x66 0x0C
  new_line : Letter 0x6E 0x0A
  return : Letter 0x72 0x0D
  tab : Letter 0x74 0x09

-- a hexadecimal digit and its value
pub data Hex : ℕ → ℕ → Type 0 where
  decimal : {b : ℕ} → From 0x30 0x39 b → Hex b (b - 0x30)
  upper : {b : ℕ} → From 0x41 0x46 b → Hex b (b - 0x37)
  lower : {b : ℕ} → From 0x61 0x66 b → Hex b (b - 0x57)

-- any code point stands for itself but those that must be escaped: quotation mark (U+0022), reverse solidus (U+005C) and the
-- control characters U+0000 to U+001F
pub data Character : Bytes → ℕ → Bytes → Type 0 where
  itself : {b : ℕ} {r : Bytes} → From 0x20 0x7F b → b ≢ 0x22 → b ≢ 0x5C → Character (b ∷ r) b r
  sequence : {l r : Bytes} {c : ℕ} → Sequence l c r → Character l c r
  letter : {b c : ℕ} {r : Bytes} → Letter b c → Character (0x5C ∷ b ∷ r) c r
  four_digits : {a b c d w x y z : ℕ} {r : Bytes} → Hex a w → Hex b x → Hex c y → Hex d z → Character (0x5C ∷ 0x75 ∷ a ∷ b ∷ c ∷ d ∷ r) (w * 0x1000 + x * 0x100 + y * 0x10 + z) r

-- characters up to and with the closing quotation mark
pub data Characters : Bytes → List ℕ → Bytes → Type 0 where
  end_quote : {r : Bytes} → Characters (0x22 ∷ r) [] r
  char : {l m r : Bytes} {c : ℕ} {cs : List ℕ} → Character l c m → Characters m cs r → Characters l (c ∷ cs) r

pub data String : Bytes → List ℕ → Bytes → Type 0 where
  quoted : {l r : Bytes} {cs : List ℕ} → Characters l cs r → String (0x22 ∷ l) cs r

-- the characters that are meant: two escapes that are a surrogate pair stand for one, as in UTF-16
unfoldable pub is_pair : ℕ → ℕ → Bool
is_pair high low = (leb 0xD800 high && leb high 0xDBFF) && (leb 0xDC00 low && leb low 0xDFFF)

unfoldable pub meant : List ℕ → List ℕ
meant [] = []
meant (c ∷ []) = c ∷ []
meant (a ∷ b ∷ cs) = cond (is_pair a b) ((0x10000 + (a - 0xD800) * 0x400 + (b - 0xDC00)) ∷ meant cs) (a ∷ meant (b ∷ cs))

-- ---- Sections 5 to 7: values, objects and arrays, nested to any depth, with white space around any token
mutual
  pub data Value : Bytes → Bytes → Type 0 where
    literal : {l r : Bytes} → Literal l r → Value l r
    number : {l r : Bytes} → Number l r → Value l r
    string : {l r : Bytes} {cs : List ℕ} → String l cs r → Value l r
    no_members : {l r : Bytes} → Spaces l (0x7D ∷ r) → Value (0x7B ∷ l) r
    object : {l m r : Bytes} → Spaces l m → Members m r → Value (0x7B ∷ l) r
    no_elements : {l r : Bytes} → Spaces l (0x5D ∷ r) → Value (0x5B ∷ l) r
    array : {l m r : Bytes} → Spaces l m → Elements m r → Value (0x5B ∷ l) r

  pub data Member : Bytes → Bytes → Type 0 where
    named : {l m n o r : Bytes} {cs : List ℕ} → String l cs m → Spaces m (0x3A ∷ n) → Spaces n o → Value o r → Member l r

  -- up to and with the closing brace
  pub data Members : Bytes → Bytes → Type 0 where
    last_member : {l m r : Bytes} → Member l m → Spaces m (0x7D ∷ r) → Members l r
    more_members : {l m n o r : Bytes} → Member l m → Spaces m (0x2C ∷ n) → Spaces n o → Members o r → Members l r

  -- up to and with the closing bracket
  pub data Elements : Bytes → Bytes → Type 0 where
    last_element : {l m r : Bytes} → Value l m → Spaces m (0x5D ∷ r) → Elements l r
    more_elements : {l m n o r : Bytes} → Value l m → Spaces m (0x2C ∷ n) → Spaces n o → Elements o r → Elements l r

-- ---- Section 4: a JSON text is a value, and nothing besides
pub data Text : Bytes → Type 0 where
  text : {l m n : Bytes} → Spaces l m → Value m n → Spaces n [] → Text l

-- ---- Some X begins with these bytes
abbrev pub Begins : (Bytes → Type 0) → Bytes → Type 0
Begins X u = (t : Bytes) × X (u ++ t)
