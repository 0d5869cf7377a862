-- How the machine runs: one law for each move; that what it finds fine is of the grammar; and that where it stops, it stops
-- whatever follows.
-- Assumes nothing.
use Prim.Native.Nat.{ℕ, zero, suc, ◌+◌, ◌≤◌}
use mathlib.Core.Path.{◌≡◌, refl, sym, ap, subst, ◌∙◌}
use mathlib.Core.Bool.{Bool, true, false, ◌&&◌}
use mathlib.Core.List.{List, [], ◌∷◌, ◌++◌}
use native.Mathlib.Decide.{ℕ_discrete}
use native.Mathlib.Omega.{arith}
use lib.Dec.{eqb}
use borrow.Author.Tests.{eqb-true}
use Rattle.json_bytes.proofs.Laws.{both_left, both_right}
use Rattle.grammar.specs.Grammar.{Bytes, From}
use Rattle.grammar_machine.proofs.Machine.{Symbol, Stack, Row, rows, optional, Move, Push, Skip, Stuck, row_of, move_of, expand, Why, Jam, Past, Turn, Next, Halt, settle, Verdict, Fine, Stops, ends, verdict}
use Rattle.grammar_machine.proofs.Language.{Words, words-part, empty-word, pushed}

-- ---- Moves
module _ (k : Symbol) (K : Stack) (b : ℕ) (l : Bytes) where
  pub eat : (js : Stack) → expand k b ≡ Push js → verdict (k ∷ K) (b ∷ l) ≡ verdict (js ++ K) l
  unfolding verdict settle
  eat js e = rw (verdict, settle, e)

  pub jam : expand k b ≡ Stuck → verdict (k ∷ K) (b ∷ l) ≡ Stops Jam (b ∷ l)
  unfolding verdict settle
  jam e = rw (verdict, settle, e)

  pub skip : expand k b ≡ Skip → verdict (k ∷ K) (b ∷ l) ≡ verdict K (b ∷ l)
  unfolding verdict settle
  skip e = rw (verdict, settle, e)

module _ (k : Symbol) (K : Stack) where
  pub left_out : optional k ≡ true → verdict (k ∷ K) [] ≡ verdict K []
  unfolding verdict ends
  left_out e = rw (ends, e)

  pub cut_off : optional k ≡ false → verdict (k ∷ K) [] ≡ Stops Jam []
  unfolding verdict ends
  cut_off e = rw (ends, e)

-- two symbols that move alike
module _ (k j : Symbol) (K : Stack) where
  pub alike : (b : ℕ) (l : Bytes) → expand k b ≡ expand j b → verdict (k ∷ K) (b ∷ l) ≡ verdict (j ∷ K) (b ∷ l)
  unfolding verdict settle
  alike b l e = rw (verdict, settle, e)

  pub alike_end : optional k ≡ optional j → verdict (k ∷ K) [] ≡ verdict (j ∷ K) []
  unfolding verdict ends
  alike_end e = rw (ends, e)

-- only what is optional is skipped, and only what is not is stuck
kept_by : (rs : List Row) (o : Bool) (i : ℕ) → (move_of rs o i ≡ Skip → o ≡ true) × (move_of rs o i ≡ Stuck → o ≡ false)
kept_by [] true i = (λ e. refl, λ e. cc)
kept_by [] false i = (λ e. cc, λ e. refl)
kept_by (r ∷ rs) o zero = (λ e. cc, λ e. cc)
kept_by (r ∷ rs) o (suc i) = kept_by rs o i

module _ (k : Symbol) (b : ℕ) where
  pub skip-optional : expand k b ≡ Skip → optional k ≡ true
  skip-optional e = (kept_by (rows k) (optional k) (row_of (rows k) b)).0 e

  pub stuck-needed : expand k b ≡ Stuck → optional k ≡ false
  stuck-needed e = (kept_by (rows k) (optional k) (row_of (rows k) b)).1 e

-- ---- A symbol passes over these bytes, where it is optional and takes none of them
abbrev pub Passes : Symbol → Bytes → Type 0
Passes k [] = optional k ≡ true
Passes k (b ∷ l) = expand k b ≡ Skip

pub pass : (k : Symbol) (K : Stack) (l : Bytes) → Passes k l → verdict (k ∷ K) l ≡ verdict K l
pass k K [] e = left_out k K e
pass k K (b ∷ l) e = skip k K b l e

-- ---- The row of a byte that is known only by its range, by a test of each byte of it
abbrev every : (ℕ → Bool) → ℕ → ℕ → Bool
every f lowest zero = f lowest
every f lowest (suc more) = f lowest && every f (suc lowest) more

every_one : (f : ℕ → Bool) (lowest more : ℕ) → every f lowest more ≡ true → (b : ℕ) → lowest ≤ b → b ≤ lowest + more → f b ≡ true
every_one f lowest zero e b h k =
    let same : b ≡ lowest = omega arith in
    rw same e
every_one f lowest (suc more) e b h k = go (every_one f (suc lowest) more (both_right (f lowest) _ e) b) (ℕ_discrete b lowest)
  where
    go : (suc lowest ≤ b → b ≤ suc lowest + more → f b ≡ true) → Dec (b ≡ lowest) → f b ≡ true
    go rest (yes same) = rw same (both_left (f lowest) _ e)
    go rest (no other) = rest (omega arith) (omega arith)

pub move-is : (k : Symbol) (i lowest more : ℕ) → every (λ b. eqb (row_of (rows k) b) i) lowest more ≡ true → (b : ℕ) → From lowest (lowest + more) b → expand k b ≡ move_of (rows k) (optional k) i
move-is k i lowest more e b h =
    rw (eqb-true (row_of (rows k) b) i (every_one (λ a. eqb (row_of (rows k) a) i) lowest more e b h.0 h.1))

-- ---- What the machine finds fine is of the grammar
settled : (K : Stack) (b : ℕ) (N : Stack) → settle K b ≡ Next N → (P : Bytes → Type 0) (l : Bytes) → Words N P l → Words K P (b ∷ l)
unfolding settle
settled [] b N e P l w = absurd (let z : ◌≡◌ {A = ℕ} 0 1 = cc in omega arith)
settled (k ∷ K) b N e P l w = go (settled K b N) (expand k b) refl e
  where
    go : (settle K b ≡ Next N → (P : Bytes → Type 0) (l : Bytes) → Words N P l → Words K P (b ∷ l)) → (m : Move) → expand k b ≡ m → elim m [ Push js ↦ Next (js ++ K) | Skip ↦ settle K b | Stuck ↦ Halt Jam ] ≡ Next N → Words (k ∷ K) P (b ∷ l)
    go rest (Push js) h q =
        let same : N ≡ js ++ K = cc in
        pushed k b js h (Words K P) l (words-part js K P l (rw same at w))
    go rest Skip h q = (b ∷ l, empty-word k (skip-optional k b h) (b ∷ l), rest q P l w)
    go rest Stuck h q = absurd (let z : ◌≡◌ {A = ℕ} 0 1 = cc in omega arith)

ended : (K : Stack) → ends K ≡ Fine → Words K (λ r. r ≡ []) []
unfolding ends
ended [] e = refl
ended (k ∷ K) e = go (ended K) (optional k) refl e
  where
    go : (ends K ≡ Fine → Words K (λ r. r ≡ []) []) → (t : Bool) → optional k ≡ t → elim t [ true ↦ ends K | false ↦ Stops Jam [] ] ≡ Fine → Words (k ∷ K) (λ r. r ≡ []) []
    go rest true h q = ([], empty-word k h [], rest q)
    go rest false h q = absurd (let z : ◌≡◌ {A = ℕ} 0 1 = cc in omega arith)

pub sound : (l : Bytes) (K : Stack) → verdict K l ≡ Fine → Words K (λ r. r ≡ []) l
unfolding verdict
sound [] K e = ended K e
sound (b ∷ l) K e = go (sound l) (settle K b) refl e
  where
    go : ((N : Stack) → verdict N l ≡ Fine → Words N (λ r. r ≡ []) l) → (t : Turn) → settle K b ≡ t → elim t [ Next N ↦ verdict N l | Halt why ↦ Stops why (b ∷ l) ] ≡ Fine → Words K (λ r. r ≡ []) (b ∷ l)
    go rest (Next N) h q = settled K b N h (λ r. r ≡ []) l (rest N q)
    go rest (Halt why) h q = absurd (let z : ◌≡◌ {A = ℕ} 0 1 = cc in omega arith)

-- ---- Where it stops, it stops whatever follows; cut off there, it lacks something, or is fine if nothing more may come
abbrev pub at_end : Why → Verdict
at_end Jam = Stops Jam []
at_end Past = Fine

pub record Halted (K : Stack) (l : Bytes) (why : Why) (r : Bytes) : Type 0 where
  pub before : Bytes
  pub split : l ≡ before ++ r
  pub cut : verdict K before ≡ at_end why
  pub stays : (b : ℕ) (x y : Bytes) → r ≡ b ∷ x → verdict K (before ++ b ∷ y) ≡ Stops why (b ∷ y)

halt-end : (K : Stack) (b : ℕ) (why : Why) → settle K b ≡ Halt why → ends K ≡ at_end why
unfolding settle ends
halt-end [] b why e =
    let same : Past ≡ why = cc in
    rw (← same)
halt-end (k ∷ K) b why e = go (halt-end K b why) (expand k b) refl e
  where
    go : (settle K b ≡ Halt why → ends K ≡ at_end why) → (m : Move) → expand k b ≡ m → elim m [ Push js ↦ Next (js ++ K) | Skip ↦ settle K b | Stuck ↦ Halt Jam ] ≡ Halt why → ends (k ∷ K) ≡ at_end why
    go rest (Push js) h q = absurd (let z : ◌≡◌ {A = ℕ} 0 1 = cc in omega arith)
    go rest Skip h q = rw (skip-optional k b h, ends) (rest q)
    go rest Stuck h q =
        let same : Jam ≡ why = cc in
        rw (stuck-needed k b h, ends, ← same)

ends-stops : (K : Stack) (why : Why) (r : Bytes) → ends K ≡ Stops why r → (why ≡ Jam) × (r ≡ [])
unfolding ends
ends-stops [] why r e = absurd (let z : ◌≡◌ {A = ℕ} 0 1 = cc in omega arith)
ends-stops (k ∷ K) why r e = go (ends-stops K why r) (optional k) e
  where
    go : (ends K ≡ Stops why r → (why ≡ Jam) × (r ≡ [])) → (t : Bool) → elim t [ true ↦ ends K | false ↦ Stops Jam [] ] ≡ Stops why r → (why ≡ Jam) × (r ≡ [])
    go rest true q = rest q
    go rest false q = (cc, cc)

pub halted : (l : Bytes) (K : Stack) (why : Why) (r : Bytes) → verdict K l ≡ Stops why r → Halted K l why r
unfolding verdict
halted [] K why r e =
    let h : (why ≡ Jam) × (r ≡ []) = ends-stops K why r e in
    record {
      before = [];
      split = sym h.1;
      cut = e ∙ rw (h.0, h.1);
      stays = λ b x y q. absurd (let z : ◌≡◌ {A = ℕ} 0 1 = cc h.1 in omega arith);
    }
halted (b ∷ l) K why r e = go (halted l) (settle K b) refl e
  where
    go : ((N : Stack) (why : Why) (r : Bytes) → verdict N l ≡ Stops why r → Halted N l why r) → (t : Turn) → settle K b ≡ t → elim t [ Next N ↦ verdict N l | Halt why ↦ Stops why (b ∷ l) ] ≡ Stops why r → Halted K (b ∷ l) why r
    go rest (Next N) h q =
        let n : Halted N l why r = rest N why r q in
        record {
          before = b ∷ n.before;
          split = ap (λ (x : Bytes). b ∷ x) n.split;
          cut = rw (h, verdict) n.cut;
          stays = λ a x y g. rw (h, verdict) (n.stays a x y g);
        }
    go rest (Halt w) h q =
        let same : w ≡ why = cc in
        let all : b ∷ l ≡ r = cc in
        record {
          before = [];
          split = all;
          cut = halt-end K b why (h ∙ ap Halt same);
          stays = λ a x y g.
              let first : a ≡ b = cc in
              subst (λ (c : ℕ). verdict K (c ∷ y) ≡ Stops why (c ∷ y)) (sym first) (rw (h, verdict, same));
        }
