-- What stands at a place of a file, and the two simplest readers: spaces and literals.
-- A file is its list of bytes; a place is an offset into it, from 0.
use Rattle.std.specs.Prelude.{ℕ, suc, ◌+◌, Bool, true, false, cond, ◌&&◌, ◌||◌, List, [], ◌∷◌, get_or, drop, leb, eqb, Result, Ok, Err}
use Rattle.json_bytes.specs.declared.Fault.{Fault}
use Rattle.json_bytes.specs.Ascii.{codes}

-- what reading a token gives: the place behind it, or its fault
abbrev pub Reading : Type 0
Reading = Result ℕ Fault

-- a fault, by its kind and place
abbrev pub fault_at : ℕ → ℕ → Reading
fault_at kind place = Err (record { kind = kind; place = place })

-- the byte at a place; 0, which no JSON text holds, past the end
abbrev pub byte_at : List ℕ → ℕ → ℕ
byte_at s i = get_or s i 0

-- from lo to hi, both included
unfoldable pub within : ℕ → ℕ → ℕ → Bool
within lo hi x = leb lo x && leb x hi

-- how many of a list's first bytes pass a test
unfoldable pub leading : (ℕ → Bool) → List ℕ → ℕ
leading f [] = 0
leading f (b ∷ bs) = elim (f b) [ true ↦ suc (leading f bs) | false ↦ 0 ]

-- ECMA-404: tab, line feed, carriage return and space may stand around any token
unfoldable pub is_space : ℕ → Bool
is_space b = eqb b 9 || (eqb b 10 || (eqb b 13 || eqb b 32))

-- the first place from `at` on that no space byte holds
unfoldable pub spaces_end : List ℕ → ℕ → ℕ
spaces_end s at = at + leading is_space (drop at s)

-- a word letter by letter: whole behind its last, or 11 at the first byte that differs
unfoldable pub spelled_at : List ℕ → ℕ → List ℕ → Reading
spelled_at s i [] = Ok i
spelled_at s i (w ∷ ws) = elim (eqb (byte_at s i) w) [ true ↦ spelled_at s (i + 1) ws | false ↦ fault_at 11 i ]

-- a literal is true, false or null, told by its first byte; any other first byte is itself the fault
unfoldable pub literal_at : List ℕ → ℕ → Reading
literal_at s at =
    cond (eqb (byte_at s at) 116) (spelled_at s at (codes "true"))
    (cond (eqb (byte_at s at) 102) (spelled_at s at (codes "false"))
    (cond (eqb (byte_at s at) 110) (spelled_at s at (codes "null")) (fault_at 11 at)))
