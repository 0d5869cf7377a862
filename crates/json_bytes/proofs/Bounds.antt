-- What a caller needs of every reader: a whole reading ends within the file and after it began, and a fault's place lies
-- within the file or at its length. Here of a literal; the other readers prove the same of theirs.
-- Assumes nothing.
use Rattle.std.specs.Prelude.{Ok, Err}
use Prim.Native.Nat.{ℕ, ◌+◌, ◌≤◌, ◌<◌}
use mathlib.Core.Path.{◌≡◌, refl}
use mathlib.Core.Bool.{Bool, true, false}
use mathlib.Core.List.{List, [], ◌∷◌}
use native.Mathlib.Omega.{arith}
use borrow.Author.Tests.{eqb-true}
use lib.ListN.{length, drop, length-drop}
use lib.Dec.{eqb}
use Rattle.json_bytes.specs.Ascii.{codes}
use Rattle.json_bytes.specs.Reads.{byte_at, spaces_end, is_space, spelled_at, literal_at, Reading, fault_at}
use Rattle.json_bytes.proofs.Laws.{inside, by-test, leading-bound}

abbrev pub Within : List ℕ → ℕ → Reading → Type 0
Within s at (Ok end) = (at < end) × (end ≤ length s)
Within s at (Err e) = e.place ≤ length s

-- every letter of a word is a byte other than 0
abbrev Letters : List ℕ → Type 0
Letters [] = Unit {0}
Letters (w ∷ ws) = (0 < w) × Letters ws

abbrev Reaches : List ℕ → ℕ → Reading → Type 0
Reaches s n (Ok end) = (n ≤ end) × (end ≤ length s)
Reaches s n (Err e) = e.place ≤ length s

by-letter : (s : List ℕ) (i n w : ℕ) (ws : List ℕ) → i ≤ length s → (eqb (byte_at s i) w ≡ true → Reaches s n (spelled_at s (i + 1) ws)) → Reaches s n (spelled_at s i (w ∷ ws))
unfolding spelled_at
by-letter s i n w ws l more = go (eqb (byte_at s i) w) refl
  where
    go : (t : Bool) → eqb (byte_at s i) w ≡ t → Reaches s n (elim t [ true ↦ spelled_at s (i + 1) ws | false ↦ fault_at 11 i ])
    go true e = more e
    go false e = l

word-reaches : (s : List ℕ) (i n : ℕ) (ws : List ℕ) → n ≤ i + length ws → i ≤ length s → Letters ws → Reaches s n (spelled_at s i ws)
unfolding spelled_at
word-reaches s i n [] m l h = (omega arith, l)
word-reaches s i n (w ∷ ws) m l h =
    by-letter s i n w ws l (λ e. word-reaches s (i + 1) n ws (omega arith) (omega (arith, inside s i w (eqb-true (byte_at s i) w e) h.0)) h.1)

literal-of : (s : List ℕ) (at w : ℕ) (ws : List ℕ) → byte_at s at ≡ w → 0 < w → Letters ws → at < at + length (w ∷ ws) → Within s at (spelled_at s at (w ∷ ws))
literal-of s at w ws e p h m =
    widen (spelled_at s at (w ∷ ws)) (word-reaches s at (at + 1) (w ∷ ws) (omega arith) (omega (arith, inside s at w e p)) (p, h))
  where
    widen : (r : Reading) → Reaches s (at + 1) r → Within s at r
    widen (Ok end) q = (omega (arith, q.0), q.1)
    widen (Err e) q = q

pub literal-within : (s : List ℕ) (at : ℕ) → at ≤ length s → Within s at (literal_at s at)
unfolding literal_at codes
literal-within s at l =
    by-test (Within s at) (eqb (byte_at s at) 116) _ _
    (λ e. literal-of s at 116 _ (eqb-true _ 116 e) (omega arith) (omega arith) (omega arith))
    (λ _. by-test (Within s at) (eqb (byte_at s at) 102) _ _
    (λ e. literal-of s at 102 _ (eqb-true _ 102 e) (omega arith) (omega arith) (omega arith))
    (λ _. by-test (Within s at) (eqb (byte_at s at) 110) _ _
    (λ e. literal-of s at 110 _ (eqb-true _ 110 e) (omega arith) (omega arith) (omega arith))
    (λ _. l)))

-- spaces end at or behind the place where they began, and within the file
pub spaces-within : (s : List ℕ) (at : ℕ) → at ≤ length s → (at ≤ spaces_end s at) × (spaces_end s at ≤ length s)
unfolding spaces_end
spaces-within s at l = (omega arith, omega (arith, leading-bound is_space (drop at s), length-drop at s))
