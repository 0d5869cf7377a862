-- The sequences of table 3-7 of the Unicode Standard, which the reader accepts, are the encodings of table 3-6, of scalar
-- values, and no others: for two, three and four bytes.
-- Assumes nothing.
use Prim.Native.Nat.{ℕ, ◌+◌, ◌*◌, ◌/◌, ◌%◌, ◌≤◌, ◌<◌}
use mathlib.Core.Path.{◌≡◌, refl, sym, ap, ◌∙◌}
use mathlib.Core.Bool.{Bool, true, false, cond, ◌&&◌, ◌||◌, and-false, or-true}
use mathlib.Core.List.{List, [], ◌∷◌}
use mathlib.Core.Logic.{◌↔◌, ◌⊎◌, inl, inr, ⊎_elim}
use native.Mathlib.Decide.{ℕ_discrete, dec_le}
use native.Mathlib.Omega.{arith}
use borrow.Author.Tests.{eqb-true, eqb-false, le-leb, lt-leb, leb-false}
use lib.Dec.{leb, eqb}
use Rattle.json_bytes.specs.Reads.{within}
use Rattle.json_bytes.proofs.Laws.{by-test, both_left, both_right, within-from, within-to}
use Rattle.json_chars.specs.Step.{second, is_two, is_three, is_four, sequence_of}
use Rattle.json_chars.specs.declared.Step.TheVariants.{Char}
use Rattle.json_meaning.specs.Unicode.{is_scalar, following, encoded}

-- ---- Ranges
within-says : (lo hi x : ℕ) → (within lo hi x ≡ true) ↔ ((lo ≤ x) × (x ≤ hi))
unfolding within
within-says lo hi x = (λ e. (within-from lo hi x e, within-to lo hi x e), λ h. rw (le-leb lo x h.0, le-leb x hi h.1))

outside_high : (lo hi x : ℕ) → hi < x → within lo hi x ≡ false
unfolding within
outside_high lo hi x h = rw (lt-leb x hi h) (and-false (leb lo x))

pub outside : (lo hi x : ℕ) → within lo hi x ≡ false → (x < lo) ⊎ (hi < x)
unfolding within
outside lo hi x = go (leb lo x) refl
  where
    go : (t : Bool) → leb lo x ≡ t → (t && leb x hi) ≡ false → (x < lo) ⊎ (hi < x)
    go true e q = inr (leb-false x hi q)
    go false e q = inl (leb-false lo x e)

both-says : (a b : Bool) → ((a && b) ≡ true) ↔ ((a ≡ true) × (b ≡ true))
both-says a b = (λ e. (both_left a b e, both_right a b e), λ h. rw (h.0, h.1))

-- ---- Scalar values
pub scalar-says : (code : ℕ) → (is_scalar code ≡ true) ↔ ((code ≤ 0x10FFFF) × ((code < 0xD800) ⊎ (0xE000 ≤ code)))
unfolding is_scalar
scalar-says code = (
  λ e. go (within 0 0xD7FF code) refl e,
  λ h. ⊎_elim
      (λ l. rw ((within-says 0 0xD7FF code).1 (omega arith, omega arith)))
      (λ l. rw ((within-says 0xE000 0x10FFFF code).1 (l, h.0)) (or-true (within 0 0xD7FF code)))
      h.1,
)
  where
    go : (t : Bool) → within 0 0xD7FF code ≡ t → (t || within 0xE000 0x10FFFF code) ≡ true → (code ≤ 0x10FFFF) × ((code < 0xD800) ⊎ (0xE000 ≤ code))
    go true e q =
        let l = within-to 0 0xD7FF code e in
        (omega arith, inl (omega arith))
    go false e q = (within-to 0xE000 0x10FFFF code q, inr (within-from 0xE000 0x10FFFF code q))

-- ---- The second byte, by the first: its least value and its greatest are each one of three
module _ (R : ℕ → Type 0) (a p q u v w : ℕ) where
  abbrev Chosen : Type 0
  Chosen = (a ≡ p → R u) × (a ≡ q → R v) × ((a ≡ p → ⊥) → (a ≡ q → ⊥) → R w)

  chosen : (p ≡ q → ⊥) → R (cond (eqb a p) u (cond (eqb a q) v w)) ↔ Chosen
  chosen apart =
      by-test (λ n. R n ↔ Chosen) (eqb a p) _ _
      (λ e. (λ r. (λ _. r, λ f. absurd (apart (sym (eqb-true a p e) ∙ f)), λ n _. absurd (n (eqb-true a p e))), λ h. h.0 (eqb-true a p e)))
      (λ n.
      by-test (λ n. R n ↔ Chosen) (eqb a q) _ _
      (λ e. (λ r. (λ f. absurd (eqb-false a p n f), λ _. r, λ _ m. absurd (m (eqb-true a q e))), λ h. h.1 (eqb-true a q e)))
      (λ m. (λ r. (λ f. absurd (eqb-false a p n f), λ f. absurd (eqb-false a q m f), λ _ _. r), λ h. h.2 (eqb-false a p n) (eqb-false a q m))))

  -- the third holds in any case, if it follows from the others
  in-any-case : (R u → R w) → (R v → R w) → Chosen → R w
  in-any-case f g h = go (ℕ_discrete a p) (ℕ_discrete a q)
    where
      go : Dec (a ≡ p) → Dec (a ≡ q) → R w
      go (yes e) d = f (h.0 e)
      go (no n) (yes e) = g (h.1 e)
      go (no n) (no m) = h.2 n m

abbrev Low : ℕ → ℕ → Type 0
Low a b = Chosen (λ n. n ≤ b) a 0xE0 0xF0 0xA0 0x90 0x80

abbrev High : ℕ → ℕ → Type 0
High a b = Chosen (λ n. b ≤ n) a 0xED 0xF4 0x9F 0x8F 0xBF

record Second (a b : ℕ) : Type 0 where
  low : Low a b
  high : High a b
  from : 0x80 ≤ b
  to : b ≤ 0xBF

second-says : (a b : ℕ) → second a b ≡ true → Second a b
unfolding second
second-says a b e =
    let low : Low a b = (chosen (λ n. n ≤ b) a 0xE0 0xF0 0xA0 0x90 0x80 (omega arith)).0 (within-from _ _ b e) in
    let high : High a b = (chosen (λ n. b ≤ n) a 0xED 0xF4 0x9F 0x8F 0xBF (omega arith)).0 (within-to (cond (eqb a 0xE0) 0xA0 (cond (eqb a 0xF0) 0x90 0x80)) _ b e) in
    record {
      low = low;
      high = high;
      from = in-any-case (λ n. n ≤ b) a 0xE0 0xF0 0xA0 0x90 0x80 (omega arith) (omega arith) low;
      to = in-any-case (λ n. b ≤ n) a 0xED 0xF4 0x9F 0x8F 0xBF (omega arith) (omega arith) high;
    }

second_is : (a b : ℕ) → Low a b → High a b → second a b ≡ true
unfolding second
second_is a b low high =
    (within-says _ _ b).1
    ((chosen (λ n. n ≤ b) a 0xE0 0xF0 0xA0 0x90 0x80 (omega arith)).1 low, (chosen (λ n. b ≤ n) a 0xED 0xF4 0x9F 0x8F 0xBF (omega arith)).1 high)

-- ---- From bytes to their code
-- the code is a scalar value behind those of one byte, and its encoding is these bytes
pub record Coded (code : ℕ) (bytes : List ℕ) : Type 0 where
  pub scalar : is_scalar code ≡ true
  pub behind : 0x80 ≤ code
  pub spelled : encoded code ≡ bytes

pub encoded-one : (code : ℕ) → code ≤ 0x7F → encoded code ≡ code ∷ []
unfolding encoded
encoded-one code h = rw (le-leb code 0x7F h)

pub encoded-two : (code : ℕ) → 0x7F < code → code ≤ 0x7FF → encoded code ≡ (0xC0 + code / 64) ∷ following code ∷ []
unfolding encoded
encoded-two code l h = rw (lt-leb code 0x7F l, le-leb code 0x7FF h)

pub encoded-three : (code : ℕ) → 0x7FF < code → code ≤ 0xFFFF → encoded code ≡ (0xE0 + code / 4096) ∷ following (code / 64) ∷ following code ∷ []
unfolding encoded
encoded-three code l h = rw (lt-leb code 0x7F (omega arith), lt-leb code 0x7FF l, le-leb code 0xFFFF h)

pub encoded-four : (code : ℕ) → 0xFFFF < code → encoded code ≡ (0xF0 + code / 262144) ∷ following (code / 4096) ∷ following (code / 64) ∷ following code ∷ []
unfolding encoded
encoded-four code l = rw (lt-leb code 0x7F (omega arith), lt-leb code 0x7FF (omega arith), lt-leb code 0xFFFF l)

pub two-coded : (a b : ℕ) → is_two a b ≡ true → Coded (a % 32 * 64 + b % 64) (a ∷ b ∷ [])
unfolding is_two
two-coded a b e =
    let code : ℕ = a % 32 * 64 + b % 64 in
    let t = (both-says (within 0xC2 0xDF a) (second a b)).0 e in
    let first = (within-says 0xC2 0xDF a).0 t.0 in
    let next = second-says a b t.1 in
    let one : 0xC0 + code / 64 ≡ a = omega (arith, next.from, next.to) in
    let two : following code ≡ b = omega (arith, next.from, next.to) in
    record {
      scalar = (scalar-says code).1 (omega arith, inl (omega arith));
      behind = omega arith;
      spelled = encoded-two code (omega arith) (omega arith) ∙ rw (one, two);
    }

pub three_coded : (a b c : ℕ) → is_three a b c ≡ true → Coded (a % 16 * 4096 + b % 64 * 64 + c % 64) (a ∷ b ∷ c ∷ [])
unfolding is_three
three_coded a b c e =
    let t = (both-says (within 0xE0 0xEF a) (second a b && within 0x80 0xBF c)).0 e in
    let u = (both-says (second a b) (within 0x80 0xBF c)).0 t.1 in
    by_bytes ((within-says 0xE0 0xEF a).0 t.0) (second-says a b u.0) ((within-says 0x80 0xBF c).0 u.1)
  where
    by_bytes : (0xE0 ≤ a) × (a ≤ 0xEF) → Second a b → (0x80 ≤ c) × (c ≤ 0xBF) → Coded (a % 16 * 4096 + b % 64 * 64 + c % 64) (a ∷ b ∷ c ∷ [])
    by_bytes first next third =
        let code : ℕ = a % 16 * 4096 + b % 64 * 64 + c % 64 in
        let one : 0xE0 + code / 4096 ≡ a = omega (arith, next.from, next.to) in
        let two : following (code / 64) ≡ b = omega (arith, next.from, next.to) in
        let three : following code ≡ c = omega (arith, next.from, next.to) in
        let least : 0x800 ≤ code = from (ℕ_discrete a 0xE0) in
        record {
          scalar = (scalar-says code).1 (omega arith, apart (ℕ_discrete a 0xED));
          behind = omega arith;
          spelled = encoded-three code (omega arith) (omega arith) ∙ rw (one, two, three);
        }
      where
        from : Dec (a ≡ 0xE0) → 0x800 ≤ a % 16 * 4096 + b % 64 * 64 + c % 64
        from (yes e) = omega (arith, next.low.0 e, next.to)
        from (no n) = omega arith

        apart : Dec (a ≡ 0xED) → (a % 16 * 4096 + b % 64 * 64 + c % 64 < 0xD800) ⊎ (0xE000 ≤ a % 16 * 4096 + b % 64 * 64 + c % 64)
        apart (yes e) = inl (omega (arith, next.high.0 e, next.from))
        apart (no n) = by_first (dec_le a 0xED)
          where
            by_first : Dec (a ≤ 0xED) → (a % 16 * 4096 + b % 64 * 64 + c % 64 < 0xD800) ⊎ (0xE000 ≤ a % 16 * 4096 + b % 64 * 64 + c % 64)
            by_first (yes l) = inl (omega (arith, next.to))
            by_first (no l) = inr (omega (arith, next.from))

pub four_coded : (a b c d : ℕ) → is_four a b c d ≡ true → Coded (a % 8 * 262144 + b % 64 * 4096 + c % 64 * 64 + d % 64) (a ∷ b ∷ c ∷ d ∷ [])
unfolding is_four
four_coded a b c d e =
    let t = (both-says (within 0xF0 0xF4 a) (second a b && (within 0x80 0xBF c && within 0x80 0xBF d))).0 e in
    let u = (both-says (second a b) (within 0x80 0xBF c && within 0x80 0xBF d)).0 t.1 in
    let v = (both-says (within 0x80 0xBF c) (within 0x80 0xBF d)).0 u.1 in
    by_bytes ((within-says 0xF0 0xF4 a).0 t.0) (second-says a b u.0) ((within-says 0x80 0xBF c).0 v.0) ((within-says 0x80 0xBF d).0 v.1)
  where
    by_bytes : (0xF0 ≤ a) × (a ≤ 0xF4) → Second a b → (0x80 ≤ c) × (c ≤ 0xBF) → (0x80 ≤ d) × (d ≤ 0xBF) → Coded (a % 8 * 262144 + b % 64 * 4096 + c % 64 * 64 + d % 64) (a ∷ b ∷ c ∷ d ∷ [])
    by_bytes first next third fourth =
        let code : ℕ = a % 8 * 262144 + b % 64 * 4096 + c % 64 * 64 + d % 64 in
        let one : 0xF0 + code / 262144 ≡ a = omega (arith, next.from, next.to) in
        let two : following (code / 4096) ≡ b = omega (arith, next.from, next.to) in
        let three : following (code / 64) ≡ c = omega (arith, next.from, next.to) in
        let four : following code ≡ d = omega (arith, next.from, next.to) in
        let least : 0x10000 ≤ code = from (ℕ_discrete a 0xF0) in
        let most : code ≤ 0x10FFFF = to (ℕ_discrete a 0xF4) in
        record {
          scalar = (scalar-says code).1 (most, inr (omega arith));
          behind = omega arith;
          spelled = encoded-four code (omega arith) ∙ rw (one, two, three, four);
        }
      where
        from : Dec (a ≡ 0xF0) → 0x10000 ≤ a % 8 * 262144 + b % 64 * 4096 + c % 64 * 64 + d % 64
        from (yes e) = omega (arith, next.low.1 e, next.to)
        from (no n) = omega arith

        to : Dec (a ≡ 0xF4) → a % 8 * 262144 + b % 64 * 4096 + c % 64 * 64 + d % 64 ≤ 0x10FFFF
        to (yes e) = omega (arith, next.high.1 e, next.from)
        to (no n) = omega arith

-- ---- From a code to its bytes: the reader makes it of them again
module _ (i a b c d : ℕ) where
  read-two : is_two a b ≡ true → sequence_of i a b c d ≡ Char (a % 32 * 64 + b % 64) (i + 2)
  unfolding sequence_of
  read-two e = rw e

  read-three : 0xDF < a → is_three a b c ≡ true → sequence_of i a b c d ≡ Char (a % 16 * 4096 + b % 64 * 64 + c % 64) (i + 3)
  unfolding sequence_of is_two
  read-three l e = rw (outside_high 0xC2 0xDF a l, e)

  read-four : 0xEF < a → is_four a b c d ≡ true → sequence_of i a b c d ≡ Char (a % 8 * 262144 + b % 64 * 4096 + c % 64 * 64 + d % 64) (i + 4)
  unfolding sequence_of is_two is_three
  read-four l e = rw (outside_high 0xC2 0xDF a (omega arith), outside_high 0xE0 0xEF a l, e)

-- a following byte lies in its range
following-within : (bits : ℕ) → within 0x80 0xBF (following bits) ≡ true
following-within bits = (within-says 0x80 0xBF (following bits)).1 (omega arith, omega arith)

module _ (code : ℕ) where
  is-two : 0x7F < code → code ≤ 0x7FF → is_two (0xC0 + code / 64) (following code) ≡ true
  unfolding is_two
  is-two l h =
      (both-says _ _).1
      ((within-says 0xC2 0xDF (0xC0 + code / 64)).1 (omega arith), second_is (0xC0 + code / 64) (following code) (omega arith) (omega arith))

  is-three : 0x7FF < code → code ≤ 0xFFFF → (code < 0xD800) ⊎ (0xE000 ≤ code) → is_three (0xE0 + code / 4096) (following (code / 64)) (following code) ≡ true
  unfolding is_three
  is-three l h apart =
      (both-says _ _).1 (
        (within-says 0xE0 0xEF (0xE0 + code / 4096)).1 (omega arith),
        (both-says _ _).1
            (second_is (0xE0 + code / 4096) (following (code / 64)) (omega arith) (⊎_elim (λ g. omega arith) (λ g. omega arith) apart), following-within code),
      )

  is-four : 0xFFFF < code → code ≤ 0x10FFFF → is_four (0xF0 + code / 262144) (following (code / 4096)) (following (code / 64)) (following code) ≡ true
  unfolding is_four
  is-four l h =
      (both-says _ _).1 (
        (within-says 0xF0 0xF4 (0xF0 + code / 262144)).1 (omega arith),
        (both-says _ _).1 (
          second_is (0xF0 + code / 262144) (following (code / 4096)) (omega arith) (omega arith),
          (both-says _ _).1
              (following-within (code / 64), following-within code),
        ),
      )

-- the bits of four bytes again; one step at a time
following-bits : (bits : ℕ) → following bits % 64 ≡ bits % 64
following-bits bits = omega arith

four_same : (code : ℕ) → 0xFFFF < code → code ≤ 0x10FFFF → (0xF0 + code / 262144) % 8 * 262144 + following (code / 4096) % 64 * 4096 + following (code / 64) % 64 * 64 + following code % 64 ≡ code
four_same code l h =
    let first : (0xF0 + code / 262144) % 8 ≡ code / 262144 = omega arith in
    rw (first, following-bits (code / 4096), following-bits (code / 64), following-bits code) (omega arith)

module _ (i code : ℕ) where
  pub two-read : (c d : ℕ) → 0x7F < code → code ≤ 0x7FF → sequence_of i (0xC0 + code / 64) (following code) c d ≡ Char code (i + 2)
  two-read c d l h =
      let same : (0xC0 + code / 64) % 32 * 64 + following code % 64 ≡ code = omega arith in
      read-two i (0xC0 + code / 64) (following code) c d (is-two code l h) ∙ ap (λ (x : ℕ). Char x (i + 2)) same

  pub three-read : (d : ℕ) → 0x7FF < code → code ≤ 0xFFFF → is_scalar code ≡ true → sequence_of i (0xE0 + code / 4096) (following (code / 64)) (following code) d ≡ Char code (i + 3)
  three-read d l h scalar =
      let same : (0xE0 + code / 4096) % 16 * 4096 + following (code / 64) % 64 * 64 + following code % 64 ≡ code = omega arith in
      read-three i (0xE0 + code / 4096) (following (code / 64)) (following code) d (omega arith) (is-three code l h ((scalar-says code).0 scalar).1) ∙
      ap (λ (x : ℕ). Char x (i + 3)) same

  pub four-read : 0xFFFF < code → is_scalar code ≡ true → sequence_of i (0xF0 + code / 262144) (following (code / 4096)) (following (code / 64)) (following code) ≡ Char code (i + 4)
  four-read l scalar =
      let most = ((scalar-says code).0 scalar).0 in
      read-four i (0xF0 + code / 262144) (following (code / 4096)) (following (code / 64)) (following code) (omega arith) (is-four code l most) ∙
      ap (λ (x : ℕ). Char x (i + 4)) (four_same code l most)
