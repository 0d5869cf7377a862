-- Which kinds a reader can give. A set of kinds is a list, and whether a kind is one of it is computed, so that what holds of
-- every kind of a set is shown by computing it of the list. A reader's set is the sets of the readers that it stands on and
-- what it adds itself; each crate has the law of its own readers and cites those below.
-- Here what these laws share, and a literal.
-- Assumes nothing.
use Rattle.std.specs.Prelude.{Ok, Err}
use Prim.Native.Nat.{ℕ, zero, suc, ◌+◌, ◌<◌}
use mathlib.Core.Path.{◌≡◌, refl}
use mathlib.Core.Bool.{Bool, true, false, cond, ◌&&◌, ◌||◌, or-true, or_assoc}
use mathlib.Core.List.{List, [], ◌∷◌, ◌++◌, map}
use native.Mathlib.Omega.{arith}
use borrow.Author.Tests.{eqb-true, eqb-false, eq-eqb}
use lib.Dec.{eqb}
use Rattle.json_bytes.specs.Ascii.{codes}
use Rattle.json_bytes.specs.Reads.{byte_at, spelled_at, literal_at, Reading, fault_at}
use Rattle.json_bytes.proofs.Laws.{either, both_left, both_right}
use Rattle.json_bytes.proofs.Opens.{open-bytes}

-- ---- a set of kinds
abbrev pub is_in : List ℕ → ℕ → Bool
is_in [] kind = false
is_in (k ∷ ks) kind = eqb kind k || is_in ks kind

abbrev pub In : List ℕ → ℕ → Type 0
In ks kind = is_in ks kind ≡ true

abbrev pub every : (ℕ → Bool) → List ℕ → Bool
every f [] = true
every f (k ∷ ks) = f k && every f ks

-- what holds of every kind of a set holds of a kind in it
pub each : (f : ℕ → Bool) (ks : List ℕ) → every f ks ≡ true → (kind : ℕ) → In ks kind → f kind ≡ true
each f [] all kind h = cc
each f (k ∷ ks) all kind h =
    go (eqb kind k) refl h (each f ks (both_right (f k) (every f ks) all) kind)
  where
    go : (t : Bool) → eqb kind k ≡ t → (t || is_in ks kind) ≡ true → (In ks kind → f kind ≡ true) → f kind ≡ true
    go true e h rest = rw (eqb-true kind k e) (both_left (f k) (every f ks) all)
    go false e h rest = rest h

pub wider : (ks more : List ℕ) → every (is_in more) ks ≡ true → (kind : ℕ) → In ks kind → In more kind
wider ks more = each (is_in more) ks

-- two sets, joined
joins : (kind : ℕ) (ks more : List ℕ) → is_in (ks ++ more) kind ≡ (is_in ks kind || is_in more kind)
joins kind [] more = refl
joins kind (k ∷ ks) more = rw (joins kind ks more, or_assoc)

module _ (ks more : List ℕ) (kind : ℕ) where
  pub in_left : In ks kind → In (ks ++ more) kind
  in_left h = rw (joins kind ks more, h)

  pub in_right : In more kind → In (ks ++ more) kind
  in_right h = rw (joins kind ks more, h, or-true)

-- ---- the numbers below a bound that pass a test, in order
unfoldable pub below : (ℕ → Bool) → ℕ → List ℕ
below f zero = []
below f (suc n) = below f n ++ cond (f n) (n ∷ []) []

pub below_in : (f : ℕ → Bool) (n k : ℕ) → k < n → f k ≡ true → In (below f n) k
unfolding below
below_in f zero k l e = absurd (omega arith)
below_in f (suc n) k l e = go (eqb k n) refl (λ less. below_in f n k less e)
  where
    go : (t : Bool) → eqb k n ≡ t → (k < n → In (below f n) k) → In (below f n ++ cond (f n) (n ∷ []) []) k
    go true same rest =
        in_right (below f n) (cond (f n) (n ∷ []) []) k (rw (← eqb-true k n same, e, eq-eqb k k refl))
    go false other rest =
        in_left (below f n) (cond (f n) (n ∷ []) []) k (rest (omega (arith, eqb-false k n other)))

-- a set of kinds in order, each once; a kind has two digits
abbrev pub in_order : List ℕ → List ℕ
in_order ks = below (is_in ks) 100

-- ---- what a reader answers: no fault, or one of a kind in the set
abbrev pub Faults : List ℕ → Reading → Type 0
Faults ks (Ok end) = Unit {0}
Faults ks (Err e) = In ks e.kind

-- what holds of a whole reading and of each fault of a kind in the set holds of such an answer
pub of-reading : (P : Reading → Type 0) (ks : List ℕ) → ((end : ℕ) → P (Ok end)) → ((kind place : ℕ) → In ks kind → P (fault_at kind place)) → (r : Reading) → Faults ks r → P r
of-reading P ks f g (Ok end) h = f end
of-reading P ks f g (Err e) h = g e.kind e.place h

-- the kind, 0 for no fault
abbrev pub kind_of : Reading → ℕ
kind_of (Ok end) = 0
kind_of (Err e) = e.kind

-- ---- a literal
abbrev pub literal_kinds : List ℕ
literal_kinds = 11 ∷ []

word-kinds : (s : List ℕ) (i : ℕ) (word : List ℕ) → Faults literal_kinds (spelled_at s i word)
unfolding spelled_at
word-kinds s i [] = tt
word-kinds s i (w ∷ ws) = go (eqb (byte_at s i) w) (word-kinds s (i + 1) ws)
  where
    go : (t : Bool) → Faults literal_kinds (spelled_at s (i + 1) ws) → Faults literal_kinds (elim t [ true ↦ spelled_at s (i + 1) ws | false ↦ fault_at 11 i ])
    go true rest = rest
    go false rest = refl

pub literal-kinds : (s : List ℕ) (at : ℕ) → Faults literal_kinds (literal_at s at)
unfolding literal_at codes
literal-kinds s at =
    either (Faults literal_kinds) (eqb (byte_at s at) 116) _ _ (word-kinds s at _)
    (either (Faults literal_kinds) (eqb (byte_at s at) 102) _ _ (word-kinds s at _)
    (either (Faults literal_kinds) (eqb (byte_at s at) 110) _ _ (word-kinds s at _) refl))

-- each is given: `x` is no literal
pub literal-given : map (λ s. literal_at s 0) ((120 ∷ []) ∷ []) ≡ map (λ kind. fault_at kind 0) literal_kinds
unfolding open-bytes
literal-given = refl
