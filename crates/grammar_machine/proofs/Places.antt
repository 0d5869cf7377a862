-- The machine along the bytes of a file, as the readers go: at which place it stands with which stack, and what that says
-- when it goes on, stops or is through.
-- Assumes nothing.
use Prim.Native.Nat.{ℕ, ◌+◌, ◌≤◌, ◌<◌}
use mathlib.Core.Path.{◌≡◌, refl, sym, ap, ◌∙◌}
use mathlib.Core.List.{[], ◌∷◌, ◌++◌, append-nil}
use native.Mathlib.Decide.{dec_le}
use native.Mathlib.Numerals.{add-one}
use native.Mathlib.Omega.{arith}
use lib.ListN.{length, take, drop, take-append-drop, length-append, drop_of_length-le}
use lib.Seq.{slice, slice_empty, drop-cons, take-suc, drop-append-le, length-take-le, append_snoc, take-append_seam, take-take}
use Rattle.json_bytes.specs.Reads.{byte_at}
use Rattle.json_bytes.proofs.Laws.{inside}
use Rattle.grammar.specs.Grammar.{Bytes, Begins}
use Rattle.grammar.specs.Claims.{StopsAt}
use Rattle.grammar_machine.proofs.Machine.{Symbol, Stack, optional, Push, Skip, Stuck, expand, Why, Jam, Past, settle, Fine, Stops, verdict}
use Rattle.grammar_machine.proofs.Language.{Word, Words, words-part, some_words, empty-word, pushed}
use Rattle.grammar_machine.proofs.Run.{alike, alike_end, eat, jam, cut_off, skip-optional, stuck-needed, Passes, pass, Halted, halted}

-- ---- Parts of a list
module _ (s : Bytes) (start i : ℕ) where
  slice-more : start ≤ i → i < length s → slice start (i + 1) s ≡ slice start i s ++ (byte_at s i ∷ [])
  slice-more l m =
      rw (add-one i, take-suc s i 0 m)
      (drop-append-le start (take i s) (byte_at s i ∷ []) (omega (arith, length-take-le i s (omega arith))))

  pub slice-then : start ≤ i → i < length s → (t : Bytes) → slice start (i + 1) s ++ t ≡ slice start i s ++ byte_at s i ∷ t
  slice-then l m t = rw (slice-more l m) (append_snoc (slice start i s) (byte_at s i) t)

  pub slice-rest : start ≤ i → i ≤ length s → drop start s ≡ slice start i s ++ drop i s
  slice-rest l m =
      ap (drop start) (sym (take-append-drop i s))
      ∙ drop-append-le start (take i s) (drop i s) (omega (arith, length-take-le i s m))

  pub slice-add : (j : ℕ) → start ≤ i → i ≤ j → j ≤ length s → slice start j s ≡ slice start i s ++ slice i j s
  slice-add j l m n =
      ap (drop start) (sym (take-append-drop i (take j s)) ∙ ap (λ (u : Bytes). u ++ slice i j s) (take-take i j s m))
      ∙ drop-append-le start (take i s) (slice i j s) (omega (arith, length-take-le i s (omega arith)))

-- a byte within the file is the first of what is left there
pub drop-byte : (s : Bytes) (i b : ℕ) → byte_at s i ≡ b → i < length s → drop i s ≡ b ∷ drop (i + 1) s
drop-byte s i b e l = drop-cons s i 0 l ∙ rw (e, add-one i)

passes-here : (s : Bytes) (k : Symbol) (i : ℕ) → i ≤ length s → expand k (byte_at s i) ≡ Skip → Passes k (drop i s)
passes-here s k i l e = go (dec_le (length s) i)
  where
    go : Dec (length s ≤ i) → Passes k (drop i s)
    go (yes m) = rw (drop_of_length-le s m) (skip-optional k (byte_at s i) e)
    go (no m) = rw (drop-byte s i (byte_at s i) refl (omega arith)) e

-- ---- From the stack K₀ at a start the machine has come to the stack K at a place: its verdict on what is left is the verdict
-- on all, and what completes K completes, behind the bytes read, K₀
pub record At (K₀ : Stack) (start : ℕ) (s : Bytes) (K : Stack) (i : ℕ) : Type 0 where
  pub begun : start ≤ i
  pub inside : i ≤ length s
  pub same : verdict K₀ (drop start s) ≡ verdict K (drop i s)
  pub completes : (t : Bytes) → Words K (λ r. r ≡ []) t → Words K₀ (λ r. r ≡ []) (slice start i s ++ t)

pub at-start : (K₀ : Stack) (start : ℕ) (s : Bytes) → start ≤ length s → At K₀ start s K₀ start
at-start K₀ start s l =
    record { begun = omega arith; inside = l; same = refl; completes = λ t w. rw (slice_empty start s) w }

module _ {K₀ : Stack} {start : ℕ} {s : Bytes} where
  -- it takes a byte
  pub push-in : (k : Symbol) (K js : Stack) {i : ℕ} (b : ℕ) → byte_at s i ≡ b → i < length s → expand k b ≡ Push js → At K₀ start s (k ∷ K) i → At K₀ start s (js ++ K) (i + 1)
  push-in k K js {i} b e l x a =
      record {
        begun = omega (arith, a.begun);
        inside = omega (arith, l);
        same = a.same ∙ ap (verdict (k ∷ K)) (drop-byte s i b e l) ∙ eat k K b (drop (i + 1) s) js x;
        completes = λ t w.
            rw (slice-then s start i a.begun l t, e)
            (a.completes (b ∷ t) (pushed k b js x (Words K (λ r. r ≡ [])) t (words-part js K (λ r. r ≡ []) t w)));
      }

  pub push_at : (k : Symbol) (K js : Stack) {i : ℕ} (b : ℕ) → byte_at s i ≡ b → 0 < b → expand k b ≡ Push js → At K₀ start s (k ∷ K) i → At K₀ start s (js ++ K) (i + 1)
  push_at k K js {i} b e p x a = push-in k K js b e (inside s i b e p) x a

  -- it passes over a symbol that does not take the byte, or the end
  pub skip_at : (k : Symbol) (K : Stack) {i : ℕ} → expand k (byte_at s i) ≡ Skip → At K₀ start s (k ∷ K) i → At K₀ start s K i
  skip_at k K {i} x a =
      record {
        begun = a.begun;
        inside = a.inside;
        same = a.same ∙ pass k K (drop i s) (passes-here s k i a.inside x);
        completes = λ t w. a.completes t (t, empty-word k (skip-optional k (byte_at s i) x) t, w);
      }

  pub onto : {K : Stack} {i j : ℕ} → i ≡ j → At K₀ start s K i → At K₀ start s K j
  onto e a = rw e at a

  -- another stack does the same here
  pub become : {K J : Stack} {i : ℕ} → verdict K (drop i s) ≡ verdict J (drop i s) → ((t : Bytes) → Words J (λ r. r ≡ []) t → Words K (λ r. r ≡ []) t) → At K₀ start s K i → At K₀ start s J i
  become e f a =
      record { begun = a.begun; inside = a.inside; same = a.same ∙ e; completes = λ t w. a.completes t (f t w) }

  pub swap_at : (k j : Symbol) (K : Stack) {i : ℕ} → expand k (byte_at s i) ≡ expand j (byte_at s i) → optional k ≡ optional j → ((l r : Bytes) → Word j l r → Word k l r) → At K₀ start s (k ∷ K) i → At K₀ start s (j ∷ K) i
  swap_at k j K {i} e o f a = become (go (dec_le (length s) i)) (λ t w. (w.0, f t w.0 w.1, w.2)) a
    where
      go : Dec (length s ≤ i) → verdict (k ∷ K) (drop i s) ≡ verdict (j ∷ K) (drop i s)
      go (yes m) = rw (drop_of_length-le s m) (alike_end k j K o)
      go (no m) = rw (drop-byte s i (byte_at s i) refl (omega arith)) (alike k j K (byte_at s i) (drop (i + 1) s) e)

  -- it stops
  pub stuck_at : (k : Symbol) (K : Stack) {i : ℕ} → expand k (byte_at s i) ≡ Stuck → At K₀ start s (k ∷ K) i → verdict K₀ (drop start s) ≡ Stops Jam (drop i s)
  stuck_at k K {i} x a = a.same ∙ go (dec_le (length s) i)
    where
      go : Dec (length s ≤ i) → verdict (k ∷ K) (drop i s) ≡ Stops Jam (drop i s)
      go (yes m) = rw (drop_of_length-le s m) (cut_off k K (stuck-needed k (byte_at s i) x))
      go (no m) = rw (drop-byte s i (byte_at s i) refl (omega arith)) (jam k K (byte_at s i) (drop (i + 1) s) x)

-- nothing may follow an empty stack
pub over : (b : ℕ) (l : Bytes) → verdict [] (b ∷ l) ≡ Stops Past (b ∷ l)
unfolding verdict settle
over b l = refl

pub over-at : {K₀ : Stack} {start : ℕ} {s : Bytes} {i : ℕ} → At K₀ start s [] i → i < length s → verdict K₀ (drop start s) ≡ Stops Past (drop i s)
over-at {s = s} {i} a l = a.same ∙ rw (drop-byte s i (byte_at s i) refl l) (over (byte_at s i) (drop (i + 1) s))

-- ---- What the machine says of an X, where the stack's words are the X
pub record Reads (K₀ : Stack) (X : Bytes → Type 0) : Type 0 where
  pub complete : (l : Bytes) → X l → verdict K₀ l ≡ Fine
  pub sound : (l : Bytes) → Words K₀ (λ r. r ≡ []) l → X l

-- two lists before the same rest are the same
same-before : (u v r : Bytes) → u ++ r ≡ v ++ r → u ≡ v
same-before u v r e =
    let n : length u ≡ length v = omega (arith, simp length-append at (ap length e)) in
    sym (take-append_seam u r) ∙ ap (take (length u)) e ∙ ap (λ (k : ℕ). take k (v ++ r)) n ∙ take-append_seam v r

before-is : {K₀ : Stack} {start : ℕ} {s : Bytes} {K : Stack} {i : ℕ} {why : Why} → At K₀ start s K i → (h : Halted K₀ (drop start s) why (drop i s)) → h.before ≡ slice start i s
before-is {start = start} {s} {i = i} a h =
    same-before h.before (slice start i s) (drop i s) (sym h.split ∙ slice-rest s start i a.begun a.inside)

module _ {K₀ : Stack} {start : ℕ} {s : Bytes} {X : Bytes → Type 0} (reads : Reads K₀ X) where
  -- wherever it stands, some X goes on
  pub begins-at : {K : Stack} {i : ℕ} → At K₀ start s K i → Begins X (slice start i s)
  begins-at {K} {i} a =
      ((some_words K).0, reads.sound (slice start i s ++ (some_words K).0) (a.completes (some_words K).0 (some_words K).1))

  -- where it stops, none does; and what was read is none, unless nothing more may come
  pub not-here : {K : Stack} {i : ℕ} → verdict K₀ (drop start s) ≡ Stops Jam (drop i s) → At K₀ start s K i → X (slice start i s) → ⊥
  not-here {K} {i} e a x =
      let h : Halted K₀ (drop start s) Jam (drop i s) = halted (drop start s) K₀ Jam (drop i s) e in
      let f : verdict K₀ (slice start i s) ≡ Fine = reads.complete _ x in
      let g : verdict K₀ (slice start i s) ≡ Stops Jam [] = rw (before-is a h) at h.cut in
      let z : ◌≡◌ {A = ℕ} 0 1 = cc in
      omega arith

  no-further : {K : Stack} {i : ℕ} (why : Why) → verdict K₀ (drop start s) ≡ Stops why (drop i s) → At K₀ start s K i → i < length s → Begins X (slice start (i + 1) s) → ⊥
  no-further {K} {i} why e a l x =
      let h : Halted K₀ (drop start s) why (drop i s) = halted (drop start s) K₀ why (drop i s) e in
      let f : verdict K₀ (slice start i s ++ byte_at s i ∷ x.0) ≡ Fine = reads.complete _ (rw (slice-then s start i a.begun l x.0) at x.1) in
      let g : verdict K₀ (slice start i s ++ byte_at s i ∷ x.0) ≡ Stops why (byte_at s i ∷ x.0) = rw (before-is a h) at (h.stays (byte_at s i) (drop (i + 1) s) x.0 (drop-byte s i (byte_at s i) refl l)) in
      let z : ◌≡◌ {A = ℕ} 0 1 = cc in
      omega arith

  pub stops : {K : Stack} {i : ℕ} (why : Why) → verdict K₀ (drop start s) ≡ Stops why (drop i s) → At K₀ start s K i → StopsAt X s start i
  stops {K} {i} why e a =
      record {
        begins = begins-at a;
        no_further = no-further why e a;
        not_whole = λ x.
            let f : verdict K₀ (drop start s) ≡ Fine = reads.complete _ x in
            let z : ◌≡◌ {A = ℕ} 0 1 = cc in
            omega arith;
      }

  -- with nothing more to come, what was read is an X, and no X goes on with the next byte
  pub through : {i : ℕ} → At K₀ start s [] i → X (slice start i s)
  through {i} a = rw (append-nil (slice start i s)) at (reads.sound (slice start i s ++ []) (a.completes [] refl))

  pub longest : {i : ℕ} → At K₀ start s [] i → i < length s → Begins X (slice start (i + 1) s) → ⊥
  longest {i} a l = no-further Past (over-at a l) a l
