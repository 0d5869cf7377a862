-- A machine that reads JSON byte by byte, with a stack of what may still come. It stands between the readers, which go by
-- places, and the grammar, which says only what there is: no statement names it.
-- Assumes nothing.
use Prim.Native.Nat.{ℕ, zero, suc, ◌+◌}
use mathlib.Core.Bool.{Bool, true, false}
use mathlib.Core.List.{List, [], ◌∷◌, ◌++◌, map}
use lib.Dec.{eqb}
use Rattle.json_bytes.specs.Reads.{within}

-- ---- What may come next
pub data Symbol : Type 0 where
  -- one byte: a known one, or one of a range, by its lowest and how many lie above that
  just : ℕ → Symbol
  one : ℕ → ℕ → Symbol
  -- white space, a literal, and the parts of a number; `digits` are those behind a digit, of which there may be none
  spaces literal minus whole digits fraction exponent sign : Symbol
  -- inside a string; behind a backslash; a hexadecimal digit
  characters escape hex : Symbol
  value : Symbol
  -- behind an opening brace or bracket and spaces, and behind a member or an element and spaces
  in_object after_member in_array after_element : Symbol

abbrev pub Stack : Type 0
Stack = List Symbol

-- a byte, or the bytes of a range, that a symbol takes, and what then comes in its place
pub data Row : Type 0 where
  at : ℕ → Stack → Row
  up_to : ℕ → ℕ → Stack → Row

-- ---- The table
abbrev pub tail : Symbol
tail = one 0x80 0x3F

-- what follows a name in its member, and what a member, an element, a number and a text are
abbrev pub member_rest : Stack
member_rest = spaces ∷ just 0x3A ∷ spaces ∷ value ∷ spaces ∷ after_member ∷ []

abbrev pub a_member : Stack
a_member = just 0x22 ∷ characters ∷ member_rest

abbrev pub an_element : Stack
an_element = value ∷ spaces ∷ after_element ∷ []

abbrev pub a_number : Stack
a_number = minus ∷ whole ∷ fraction ∷ exponent ∷ []

abbrev pub a_text : Stack
a_text = spaces ∷ value ∷ spaces ∷ []

abbrev literal_rows : List Row
literal_rows =
    at 0x74 (just 0x72 ∷ just 0x75 ∷ just 0x65 ∷ []) ∷
    at 0x66 (just 0x61 ∷ just 0x6C ∷ just 0x73 ∷ just 0x65 ∷ []) ∷
    at 0x6E (just 0x75 ∷ just 0x6C ∷ just 0x6C ∷ []) ∷
    []

abbrev pub value_rows : List Row
value_rows =
    at 0x22 (characters ∷ []) ∷
    at 0x2D (whole ∷ fraction ∷ exponent ∷ []) ∷
    at 0x30 (fraction ∷ exponent ∷ []) ∷
    up_to 0x31 0x39 (digits ∷ fraction ∷ exponent ∷ []) ∷
    at 0x7B (spaces ∷ in_object ∷ []) ∷
    at 0x5B (spaces ∷ in_array ∷ []) ∷
    literal_rows

-- an element instead of a value
abbrev pub as_element : Row → Row
as_element (at b then) = at b (then ++ spaces ∷ after_element ∷ [])
as_element (up_to lowest highest then) = up_to lowest highest (then ++ spaces ∷ after_element ∷ [])

abbrev pub rows : Symbol → List Row
rows (just b) = at b [] ∷ []
rows (one lowest more) = up_to lowest (lowest + more) [] ∷ []
rows spaces = at 0x09 (spaces ∷ []) ∷ at 0x0A (spaces ∷ []) ∷ at 0x0D (spaces ∷ []) ∷ at 0x20 (spaces ∷ []) ∷ []
rows literal = literal_rows
rows minus = at 0x2D [] ∷ []
rows whole = at 0x30 [] ∷ up_to 0x31 0x39 (digits ∷ []) ∷ []
rows digits = up_to 0x30 0x39 (digits ∷ []) ∷ []
rows fraction = at 0x2E (one 0x30 9 ∷ digits ∷ []) ∷ []
rows exponent = at 0x65 (sign ∷ one 0x30 9 ∷ digits ∷ []) ∷ at 0x45 (sign ∷ one 0x30 9 ∷ digits ∷ []) ∷ []
rows sign = at 0x2B [] ∷ at 0x2D [] ∷ []
rows characters =
    at 0x22 [] ∷
    at 0x5C (escape ∷ characters ∷ []) ∷
    up_to 0x20 0x21 (characters ∷ []) ∷
    up_to 0x23 0x5B (characters ∷ []) ∷
    up_to 0x5D 0x7F (characters ∷ []) ∷
    up_to 0xC2 0xDF (tail ∷ characters ∷ []) ∷
    at 0xE0 (one 0xA0 0x1F ∷ tail ∷ characters ∷ []) ∷
    up_to 0xE1 0xEC (tail ∷ tail ∷ characters ∷ []) ∷
    at 0xED (one 0x80 0x1F ∷ tail ∷ characters ∷ []) ∷
    up_to 0xEE 0xEF (tail ∷ tail ∷ characters ∷ []) ∷
    at 0xF0 (one 0x90 0x2F ∷ tail ∷ tail ∷ characters ∷ []) ∷
    up_to 0xF1 0xF3 (tail ∷ tail ∷ tail ∷ characters ∷ []) ∷
    at 0xF4 (one 0x80 0x0F ∷ tail ∷ tail ∷ characters ∷ []) ∷
    []
rows escape =
    at 0x22 [] ∷ at 0x5C [] ∷ at 0x2F [] ∷ at 0x62 [] ∷ at 0x66 [] ∷ at 0x6E [] ∷ at 0x72 [] ∷ at 0x74 [] ∷ at 0x75 (hex ∷ hex ∷ hex ∷ hex ∷ []) ∷ []
rows hex = up_to 0x30 0x39 [] ∷ up_to 0x41 0x46 [] ∷ up_to 0x61 0x66 [] ∷ []
rows value = value_rows
rows in_object = at 0x7D [] ∷ at 0x22 (characters ∷ member_rest) ∷ []
rows after_member = at 0x7D [] ∷ at 0x2C (spaces ∷ a_member) ∷ []
rows in_array = at 0x5D [] ∷ map as_element value_rows
rows after_element = at 0x5D [] ∷ at 0x2C (spaces ∷ an_element) ∷ []

-- what may be left out
abbrev pub optional : Symbol → Bool
optional (just b) = false
optional (one lowest more) = false
optional spaces = true
optional literal = false
optional minus = true
optional whole = false
optional digits = true
optional fraction = true
optional exponent = true
optional sign = true
optional characters = false
optional escape = false
optional hex = false
optional value = false
optional in_object = false
optional after_member = false
optional in_array = false
optional after_element = false

-- ---- A byte at the top of the stack
pub data Move : Type 0 where
  Push : Stack → Move
  Skip Stuck : Move

abbrev pub takes : Row → ℕ → Bool
takes (at a then) b = eqb b a
takes (up_to lowest highest then) b = within lowest highest b

abbrev pub then_of : Row → Stack
then_of (at a then) = then
then_of (up_to lowest highest then) = then

-- which of the rows takes a byte; their count where none does
unfoldable pub row_of : List Row → ℕ → ℕ
row_of [] b = 0
row_of (r ∷ rs) b = elim (takes r b) [ true ↦ 0 | false ↦ suc (row_of rs b) ]

abbrev pub move_of : List Row → Bool → ℕ → Move
move_of [] true i = Skip
move_of [] false i = Stuck
move_of (r ∷ rs) o zero = Push (then_of r)
move_of (r ∷ rs) o (suc i) = move_of rs o i

abbrev pub expand : Symbol → ℕ → Move
expand k b = move_of (rows k) (optional k) (row_of (rows k) b)

-- ---- A byte on the stack: what comes then, or why none does: it jams, or nothing may come any more
pub data Why : Type 0 where
  Jam Past : Why

pub data Turn : Type 0 where
  Next : Stack → Turn
  Halt : Why → Turn

unfoldable pub settle : Stack → ℕ → Turn
settle [] b = Halt Past
settle (k ∷ K) b = elim (expand k b) [ Push js ↦ Next (js ++ K) | Skip ↦ settle K b | Stuck ↦ Halt Jam ]

-- ---- Bytes on the stack: all is well, or it stops before some of them
pub data Verdict : Type 0 where
  Fine : Verdict
  Stops : Why → List ℕ → Verdict

unfoldable pub ends : Stack → Verdict
ends [] = Fine
ends (k ∷ K) = elim (optional k) [ true ↦ ends K | false ↦ Stops Jam [] ]

unfoldable pub verdict : Stack → List ℕ → Verdict
verdict K [] = ends K
verdict K (b ∷ l) = elim (settle K b) [ Next N ↦ verdict N l | Halt why ↦ Stops why (b ∷ l) ]
