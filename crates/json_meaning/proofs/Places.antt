-- Bytes that stand in a file, one by one and one run behind another.
-- Assumes nothing.
use Prim.Native.Nat.{ℕ, suc, ◌+◌, ◌≤◌, ◌<◌}
use mathlib.Core.Path.{◌≡◌, refl, sym, ap, ◌∙◌}
use mathlib.Core.List.{List, [], ◌∷◌, ◌++◌}
use native.Mathlib.Numerals.{add-one}
use native.Mathlib.Omega.{arith}
use lib.ListN.{length, get_or, take, drop, length-append}
use lib.Seq.{drop-cons, get_or-take, get_or-drop, take-add, drop-drop}
use Rattle.json_bytes.specs.Reads.{byte_at}
use Rattle.json_bytes.proofs.Laws.{inside}
use Rattle.json_meaning.specs.Stands.{Stands}

module _ (s : List ℕ) where
  -- one byte and those behind it
  front : (i j n : ℕ) {rest : List ℕ} → i < length s → j ≡ i + 1 → take n (drop j s) ≡ rest → take (suc n) (drop i s) ≡ byte_at s i ∷ rest
  front i j n l e q = rw (drop-cons s i 0 l) (ap (λ (xs : List ℕ). byte_at s i ∷ xs) (ap (λ (k : ℕ). take n (drop k s)) (sym (e ∙ add-one i)) ∙ q))

  -- byte k of them
  pub byte_of : (i n k : ℕ) {bytes : List ℕ} → take n (drop i s) ≡ bytes → k < n → byte_at s (i + k) ≡ get_or bytes k 0
  byte_of i n k e l = sym (get_or-drop i s k 0) ∙ sym (get_or-take n (drop i s) k 0 l) ∙ ap (λ (xs : List ℕ). get_or xs k 0) e

  pub byte-first : (i n : ℕ) {bytes : List ℕ} → take (suc n) (drop i s) ≡ bytes → byte_at s i ≡ get_or bytes 0 0
  byte-first i n e = ap (byte_at s) (omega arith) ∙ byte_of i (suc n) 0 e (omega arith)

  module _ (i : ℕ) where
    pub take-one : i + 1 ≤ length s → take 1 (drop i s) ≡ byte_at s i ∷ []
    take-one l = front i (i + 1) 0 (omega arith) refl refl

    pub take-two : i + 2 ≤ length s → take 2 (drop i s) ≡ byte_at s i ∷ byte_at s (i + 1) ∷ []
    take-two l = front i (i + 1) 1 (omega arith) refl (front (i + 1) (i + 2) 0 (omega arith) (omega arith) refl)

    pub take-three : i + 3 ≤ length s → take 3 (drop i s) ≡ byte_at s i ∷ byte_at s (i + 1) ∷ byte_at s (i + 2) ∷ []
    take-three l =
        front i (i + 1) 2 (omega arith) refl
        (front (i + 1) (i + 2) 1 (omega arith) (omega arith) (front (i + 2) (i + 3) 0 (omega arith) (omega arith) refl))

    pub take-four : i + 4 ≤ length s → take 4 (drop i s) ≡ byte_at s i ∷ byte_at s (i + 1) ∷ byte_at s (i + 2) ∷ byte_at s (i + 3) ∷ []
    take-four l =
        front i (i + 1) 3 (omega arith) refl
        (front (i + 1) (i + 2) 2 (omega arith) (omega arith)
        (front (i + 2) (i + 3) 1 (omega arith) (omega arith) (front (i + 3) (i + 4) 0 (omega arith) (omega arith) refl)))

-- ---- One run behind another
module _ (s : List ℕ) where
  pub stands-none : (i : ℕ) → Stands s i [] i
  stands-none i = record { there = refl; ends = omega arith }

  pub stands-byte : (i b : ℕ) → byte_at s i ≡ b → 0 < b → Stands s i (b ∷ []) (i + 1)
  stands-byte i b e p = record { there = take-one s i (omega (arith, inside s i b e p)) ∙ ap (λ (x : ℕ). x ∷ []) e; ends = refl }

  pub stands-append : {i j k : ℕ} {xs ys : List ℕ} → Stands s i xs j → Stands s j ys k → Stands s i (xs ++ ys) k
  stands-append {i} {j} {k} {xs} {ys} a b = record {
    there = rw (length-append xs ys, take-add (length xs) (length ys) (drop i s), a.there, drop-drop (length xs) i s, sym a.ends, b.there);
    ends = b.ends ∙ rw (a.ends, length-append xs ys) (omega arith);
  }
