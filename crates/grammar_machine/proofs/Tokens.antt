-- What a reader answers of a token, and that it is what the grammar says: read whole it is one, a fault stands where none
-- goes on, and what is one is read whole. Spaces and literals here; the crates above have the other readers.
-- Assumes nothing.
use Rattle.std.specs.Prelude.{Ok, Err}
use Prim.Native.Nat.{ℕ, zero, suc, ◌+◌, ◌≤◌, ◌<◌}
use mathlib.Core.Path.{◌≡◌, refl, ap, ◌∙◌}
use mathlib.Core.Bool.{Bool, true, false, cond, ◌||◌}
use mathlib.Core.List.{List, [], ◌∷◌, ◌++◌, append_assoc, append-nil, map}
use native.Mathlib.Decide.{dec_le, dec_lt}
use native.Mathlib.Omega.{arith}
use borrow.Author.Tests.{eqb-true, eqb-false, eq-eqb}
use lib.Dec.{eqb}
use lib.ListN.{length, drop, get_or-eq_default}
use lib.Seq.{slice}
use Rattle.json_bytes.specs.Ascii.{codes}
use Rattle.json_bytes.specs.Reads.{byte_at, leading, is_space, spaces_end, spelled_at, literal_at, Reading, fault_at}
use Rattle.json_bytes.proofs.Laws.{by-test, run_more, run-stops, run_ends}
use Rattle.grammar.specs.Grammar.{Bytes, Begins, Literal, Character}
use Rattle.grammar.specs.Claims.{StopsAt, Longest, Only}
use Rattle.grammar_machine.proofs.Machine.{Symbol, just, spaces, literal, characters, Stack, Push, Skip, Stuck, rows, row_of, move_of, expand, Jam, Past, Fine, Stops, ends, verdict}
use Rattle.grammar_machine.proofs.Complete.{literal-run, just-row, just-stuck}
use Rattle.grammar_machine.proofs.More.{literal-more}
use Rattle.grammar_machine.proofs.Places.{slice-add, slice-then, over, At, at-start, push-in, push_at, skip_at, stuck_at, Reads, begins-at, not-here, stops, through, longest}

-- ---- The machine jams here: kind 11
pub record Stopped (K₀ : Stack) (start : ℕ) (s : Bytes) (place : ℕ) : Type 0 where
  pub top : Symbol
  pub below : Stack
  pub here : At K₀ start s (top ∷ below) place
  pub stuck : expand top (byte_at s place) ≡ Stuck

pub stop : {K₀ : Stack} {start : ℕ} {s : Bytes} (k : Symbol) (K : Stack) {i : ℕ} → expand k (byte_at s i) ≡ Stuck → At K₀ start s (k ∷ K) i → Stopped K₀ start s i
stop k K x a = record { top = k; below = K; here = a; stuck = x }

-- ---- What a fault says of its place
-- no character begins here
pub record Broken (s : Bytes) (place : ℕ) : Type 0 where
  pub high : 0x80 ≤ byte_at s place
  pub none : (c : ℕ) (r : Bytes) → Character (drop place s) c r → ⊥

-- 11 where the machine stops, or behind the end; 10 inside a string; any other where the machine stands
pub data Told (K₀ : Stack) (start : ℕ) (s : Bytes) : ℕ → ℕ → Type 0 where
  stopped : {place : ℕ} → Stopped K₀ start s place → Told K₀ start s 11 place
  behind : {place : ℕ} → At K₀ start s [] place → place < length s → Told K₀ start s 11 place
  broken : {place : ℕ} (K : Stack) → At K₀ start s (characters ∷ K) place → Broken s place → Told K₀ start s 10 place
  judged : {kind place : ℕ} (K : Stack) → 12 ≤ kind → At K₀ start s K place → Told K₀ start s kind place

-- a fault of a value is one of what holds it
pub retold : {K₀ : Stack} {start : ℕ} {s : Bytes} {kind place : ℕ} → Told K₀ start s kind place → 12 ≤ kind → (other : ℕ) → 12 ≤ other → Told K₀ start s other place
retold (stopped p) h other l = absurd (omega arith)
retold (behind a m) h other l = absurd (omega arith)
retold (broken K a b) h other l = absurd (omega arith)
retold (judged K m a) h other l = judged K l a

-- what a reader answers: where it is through, or a fault
abbrev pub Answered : Stack → ℕ → Bytes → Stack → Reading → Type 0
Answered K₀ start s K (Ok end) = At K₀ start s K end
Answered K₀ start s K (Err e) = Told K₀ start s e.kind e.place

-- what a reader of a token answers
abbrev pub Answers : Stack → ℕ → Bytes → Stack → Reading → Type 0
Answers K₀ start s K (Ok end) = At K₀ start s K end
Answers K₀ start s K (Err e) = (e.kind ≡ 11) × Stopped K₀ start s e.place

pub answered : (K₀ : Stack) (start : ℕ) (s : Bytes) (K : Stack) (r : Reading) → Answers K₀ start s K r → Answered K₀ start s K r
answered K₀ start s K (Ok end) a = a
answered K₀ start s K (Err e) a = rw a.0 (stopped a.1)

-- ---- A run of bytes that a symbol takes again and again
pub record Ran (K₀ : Stack) (start : ℕ) (s : Bytes) (f : ℕ → Bool) (K : Stack) (i : ℕ) : Type 0 where
  pub here : At K₀ start s K i
  pub ended : f (byte_at s i) ≡ false

module _ {K₀ : Stack} {start : ℕ} {s : Bytes} (f : ℕ → Bool) (k : Symbol) (K : Stack) (none : f 0 ≡ false) (more : (b : ℕ) → f b ≡ true → expand k b ≡ Push (k ∷ [])) where
  run_none : (i : ℕ) → length s ≤ i → At K₀ start s (k ∷ K) i → Ran K₀ start s f (k ∷ K) (i + leading f (drop i s))
  run_none i l a = rw (run_ends f s i l) (record { here = a; ended = rw (get_or-eq_default s 0 l) none })

  run_by : (n i : ℕ) → length s ≤ i + n → At K₀ start s (k ∷ K) i → Ran K₀ start s f (k ∷ K) (i + leading f (drop i s))
  run_by zero i m a = run_none i (omega arith) a
  run_by (suc n) i m a = go (run_by n (i + 1) (omega arith)) (dec_le (length s) i) (f (byte_at s i)) refl
    where
      go : (At K₀ start s (k ∷ K) (i + 1) → Ran K₀ start s f (k ∷ K) ((i + 1) + leading f (drop (i + 1) s))) → Dec (length s ≤ i) → (t : Bool) → f (byte_at s i) ≡ t → Ran K₀ start s f (k ∷ K) (i + leading f (drop i s))
      go rest (yes l) t e = run_none i l a
      go rest (no l) true e =
          rw (run_more f s i (omega arith) e) (rest (push-in k K (k ∷ []) (byte_at s i) refl (omega arith) (more (byte_at s i) e) a))
      go rest (no l) false e = rw (run-stops f s i (omega arith) e) (record { here = a; ended = e })

  pub run_at : (i : ℕ) → At K₀ start s (k ∷ K) i → Ran K₀ start s f (k ∷ K) (i + leading f (drop i s))
  run_at i a = run_by (length s) i (omega arith) a

-- ---- Spaces
space-move : (b : ℕ) → expand spaces b ≡ cond (is_space b) (Push (spaces ∷ [])) Skip
unfolding row_of is_space
space-move b = go (eqb b 9) (eqb b 10) (eqb b 13) (eqb b 32)
  where
    go : (p q r t : Bool) → move_of (rows spaces) true (elim p [
      | true ↦ 0
      | false ↦ suc (elim q [ true ↦ 0 | false ↦ suc (elim r [ true ↦ 0 | false ↦ suc (elim t [ true ↦ 0 | false ↦ suc 0 ]) ]) ])
    ]) ≡ cond (p || (q || (r || t))) (Push (spaces ∷ [])) Skip
    go true q r t = refl
    go false true r t = refl
    go false false true t = refl
    go false false false true = refl
    go false false false false = refl

space-push : (b : ℕ) → is_space b ≡ true → expand spaces b ≡ Push (spaces ∷ [])
space-push b e = space-move b ∙ rw e

space-skip : (b : ℕ) → is_space b ≡ false → expand spaces b ≡ Skip
space-skip b e = space-move b ∙ rw e

pub spaces-at : {K₀ : Stack} {start : ℕ} {s : Bytes} (K : Stack) {i : ℕ} → At K₀ start s (spaces ∷ K) i → At K₀ start s K (spaces_end s i)
unfolding spaces_end is_space
spaces-at {K₀} {start} {s} K {i} a =
    let r : Ran K₀ start s is_space (spaces ∷ K) (i + leading is_space (drop i s)) = run_at is_space spaces K refl space-push i a in
    skip_at spaces K (space-skip _ r.ended) r.here

-- ---- Literals
abbrev Letters : List ℕ → Type 0
Letters [] = Unit {0}
Letters (w ∷ ws) = (0 < w) × Letters ws

module _ {K₀ : Stack} {start : ℕ} {s : Bytes} (K : Stack) where
  word_at : (ws : List ℕ) → Letters ws → (i : ℕ) → At K₀ start s (map just ws ++ K) i → Answers K₀ start s K (spelled_at s i ws)
  unfolding spelled_at
  word_at [] h i a = a
  word_at (w ∷ ws) h i a = go (word_at ws h.1 (i + 1)) (eqb (byte_at s i) w) refl
    where
      go : (At K₀ start s (map just ws ++ K) (i + 1) → Answers K₀ start s K (spelled_at s (i + 1) ws)) → (t : Bool) → eqb (byte_at s i) w ≡ t → Answers K₀ start s K (elim t [ true ↦ spelled_at s (i + 1) ws | false ↦ fault_at 11 i ])
      go rest true e =
          rest (push_at (just w) (map just ws ++ K) [] w (eqb-true (byte_at s i) w e) h.0 (just-row w w refl) a)
      go rest false e =
          (refl, stop (just w) (map just ws ++ K) (just-stuck w (byte_at s i) (eqb-false (byte_at s i) w e)) a)

  -- a literal by its first letter
  letter_at : (w : ℕ) (ws : List ℕ) → 0 < w → Letters ws → expand literal w ≡ Push (map just ws) → (at : ℕ) → byte_at s at ≡ w → At K₀ start s (literal ∷ K) at → Answers K₀ start s K (spelled_at s at (w ∷ ws))
  unfolding spelled_at
  letter_at w ws p h x at e a =
      rw (spelled_at, eq-eqb (byte_at s at) w e) (word_at ws h (at + 1) (push_at literal K (map just ws) w e p x a))

  pub literal-at : (at : ℕ) → At K₀ start s (literal ∷ K) at → Answers K₀ start s K (literal_at s at)
  unfolding literal_at codes row_of
  literal-at at a =
      by-test (Answers K₀ start s K) (eqb (byte_at s at) 116) _ _
      (λ e. letter_at 116 _ (omega arith) (omega arith) refl at (eqb-true _ 116 e) a)
      (λ m. by-test (Answers K₀ start s K) (eqb (byte_at s at) 102) _ _
      (λ e. letter_at 102 _ (omega arith) (omega arith) refl at (eqb-true _ 102 e) a)
      (λ n. by-test (Answers K₀ start s K) (eqb (byte_at s at) 110) _ _
      (λ e. letter_at 110 _ (omega arith) (omega arith) refl at (eqb-true _ 110 e) a)
      (λ o. (refl, stop literal K (rw (row_of, m, n, o)) a))))

-- ---- A token by itself
module _ {K₀ : Stack} {X : Bytes → Type 0} (reads : Reads K₀ X) (s : Bytes) (start : ℕ) where
  -- what begins with more bytes begins with fewer
  shorter : (i j : ℕ) → start ≤ i → i ≤ j → j ≤ length s → Begins X (slice start j s) → Begins X (slice start i s)
  shorter i j l m n x =
      (slice i j s ++ x.0, rw (slice-add s start i j l m n, append_assoc (slice start i s) (slice i j s) x.0) at x.1)

  ended : (j : ℕ) → X (slice start j s) → Begins X (slice start j s)
  ended j x = ([], rw (append-nil (slice start j s)) x)

  pub whole-token : {end : ℕ} → At K₀ start s [] end → Longest X s start end
  whole-token a = record { is_one = through reads a; no_longer = longest reads a }

  pub fault-token : {place : ℕ} → Stopped K₀ start s place → StopsAt X s start place
  fault-token p = stops reads Jam (stuck_at p.top p.below p.stuck p.here) p.here

  -- of two ends neither is before the other, nor is a fault before or behind an end, or at it
  module _ {end : ℕ} (l : start ≤ end) (m : end ≤ length s) (x : Longest X s start end) where
    not-before : {e : ℕ} → Longest X s start e → start ≤ e → e < end → ⊥
    not-before {e} y n o = y.no_longer (omega arith) (shorter (e + 1) end (omega arith) (omega arith) m (ended end x.is_one))

    not_behind : {e : ℕ} → Begins X (slice start e s) → e ≤ length s → end < e → ⊥
    not_behind {e} y n o = x.no_longer (omega arith) (shorter (end + 1) e (omega arith) (omega arith) n y)

    end_is : {e : ℕ} → At K₀ start s [] e → e ≡ end
    end_is {e} a = go (dec_lt e end) (dec_lt end e)
      where
        go : Dec (e < end) → Dec (end < e) → e ≡ end
        go (yes o) q = absurd (not-before (whole-token a) a.begun o)
        go (no o) (yes q) = absurd (not_behind (begins-at reads a) a.inside q)
        go (no o) (no q) = omega arith

    no-fault : {place : ℕ} → Stopped K₀ start s place → ⊥
    no-fault {place} p = go (dec_lt place end) (dec_lt end place)
      where
        go : Dec (place < end) → Dec (end < place) → ⊥
        go (yes o) q =
            (fault-token p).no_further (omega arith)
            (shorter (place + 1) end (omega (arith, p.here.begun)) (omega arith) m (ended end x.is_one))
        go (no o) (yes q) = not_behind (begins-at reads p.here) p.here.inside q
        go (no o) (no q) =
            let same : place ≡ end = omega arith in
            not-here reads (stuck_at p.top p.below p.stuck p.here) p.here (rw same x.is_one)

    pub read-token : (r : Reading) → Answers K₀ start s [] r → r ≡ Ok end
    read-token (Ok e) a = ap Ok (end_is a)
    read-token (Err e) a = absurd (no-fault a.1)

  -- an X whose last byte shows that it ends there is the longest
  pub firm-longest : ((l x : Bytes) → X l → verdict K₀ (l ++ x) ≡ verdict [] x) → {end : ℕ} → start ≤ end → X (slice start end s) → Longest X s start end
  firm-longest firm {end} l x =
      record {
        is_one = x;
        no_longer = λ m y.
            let f : verdict K₀ (slice start end s ++ byte_at s end ∷ y.0) ≡ Fine = reads.complete _ (rw (slice-then s start end l m y.0) at y.1) in
            let g : verdict K₀ (slice start end s ++ byte_at s end ∷ y.0) ≡ Stops Past (byte_at s end ∷ y.0) = firm _ _ x ∙ over (byte_at s end) y.0 in
            let z : ◌≡◌ {A = ℕ} 0 1 = cc in
            omega arith;
      }

-- ---- Literals by themselves
literal-reads : Reads (literal ∷ []) (Only Literal)
unfolding verdict ends
literal-reads = record { complete = λ l h. literal-run h []; sound = λ l w. rw w.2 at w.1 }

module _ (s : Bytes) (at : ℕ) (inside : at ≤ length s) where
  literal-answers : Answers (literal ∷ []) at s [] (literal_at s at)
  literal-answers = literal-at [] at (at-start (literal ∷ []) at s inside)

  -- read whole, it is a literal
  pub literal-whole : {end : ℕ} → literal_at s at ≡ Ok end → Longest (Only Literal) s at end
  literal-whole e = whole-token literal-reads s at (rw e at literal-answers)

  -- a fault is 11, at the first byte with which none goes on
  pub literal-fault : {kind place : ℕ} → literal_at s at ≡ fault_at kind place → (kind ≡ 11) × StopsAt (Only Literal) s at place
  literal-fault e =
      let a : Answers (literal ∷ []) at s [] (fault_at _ _) = rw e at literal-answers in
      (a.0, fault-token literal-reads s at a.1)

  -- what is a literal is read whole
  pub literal-read : {end : ℕ} → at ≤ end → end ≤ length s → Only Literal (slice at end s) → literal_at s at ≡ Ok end
  literal-read l m x =
      read-token literal-reads s at l m (firm-longest literal-reads s at (λ w y h. literal-run (literal-more h y) []) l x) (literal_at s at) literal-answers
