-- Reading a string and its rules at once: what is left at a place, one law for each answer of a step, and what a caller
-- needs of a whole reading.
-- Assumes nothing.
use Rattle.std.specs.Prelude.{Ok}
use Rattle.std.proofs.Common.{◌≡◌, ℕ, zero, suc, ◌+◌, ◌-◌, ◌<◌, ◌≤◌, Bool, true, false, cond, ◌&&◌, ◌||◌, eqb, ltb, List, [], ◌∷◌, length, drop, sym, refl, ap, ◌∙◌, add-zero, suc-add, zero-add, arith, ltb-false, ltb-true, lt-ltb, eq-eqb, ne_eqb, eqb-true}
use Rattle.json_bytes.specs.Reads.{byte_at, within, leading, Reading, fault_at}
use Rattle.json_chars.specs.Step.{step_at}
use Rattle.json_chars.specs.declared.Step.TheVariants.{Char, Close, Bad}
use Rattle.json_bytes.proofs.Laws.{both_left, both_right, within-from, within-to}
use Rattle.json_chars.proofs.Bounds.{step-good, Good}
use Rattle.json_chars.proofs.Walk.{own-step}
use Rattle.json_text.specs.Run.{is_graphic, Run, run_end, edge_behind, in_words, Words}
use Rattle.json_text.specs.Text.{text_from, text_read_at, rule_broken, none, wrong_here, first_wrong, closes_at, wrong_from, wrong_at, text_read}
use Rattle.json_text.specs.declared.TextType.{TextType}
use Rattle.json_text.specs.declared.Wrong.{Wrong}
use Rattle.json_text.proofs.Spaces.{graphic-right, space-right}

-- ---- the first of several wrong characters
module _ (w v : Wrong) where
  pub first-is : 0 < w.rule → first_wrong w v ≡ w
  unfolding first_wrong
  first-is h = rw (lt-ltb 0 w.rule h)

pub first-assoc : (w v u : Wrong) → first_wrong w (first_wrong v u) ≡ first_wrong (first_wrong w v) u
unfolding first_wrong
first-assoc w v u = go (ltb 0 w.rule) refl
  where
    go : (t : Bool) → ltb 0 w.rule ≡ t → first_wrong w (first_wrong v u) ≡ first_wrong (first_wrong w v) u
    go true e = rw (e, e)
    go false e = rw e

-- what is found wrong is tidy: without a rule it is none
pub here-tidy : (rule i : ℕ) → first_wrong (wrong_here rule i) none ≡ wrong_here rule i
unfolding first_wrong wrong_here none
here-tidy rule i = go (ltb 0 rule) refl
  where
    go : (t : Bool) → ltb 0 rule ≡ t → first_wrong (wrong_here rule i) none ≡ wrong_here rule i
    go true e = rw (e, e)
    go false e = rw e

pub record Left (ty : TextType) (s : List ℕ) (at : ℕ) (w : Wrong) (i : ℕ) (edge : Bool) : Type 0 where
  pub fuel : ℕ
  pub inside : i ≤ length s
  pub enough : length s < i + fuel
  pub reads : text_from fuel s i ≡ text_read_at s at
  pub wrongs : first_wrong w (wrong_from fuel ty s i edge) ≡ wrong_at ty s at
  pub tidy : first_wrong w none ≡ w

-- i ≤ length s < i + fuel, so that fuel is left for one step
module _ (ty : TextType) (s : List ℕ) (at : ℕ) (w : Wrong) (i : ℕ) (edge : Bool) where
  abbrev after : ℕ → ℕ → Wrong
  after code next = first_wrong w (wrong_here (rule_broken ty code (edge || closes_at s next)) i)

  char-by : (f : ℕ) → i ≤ length s → length s < i + f → text_from f s i ≡ text_read_at s at → first_wrong w (wrong_from f ty s i edge) ≡ wrong_at ty s at → (code next : ℕ) → step_at s i ≡ Char code next → Left ty s at (after code next) next (eqb code 32)
  unfolding text_from wrong_from
  char-by zero l m r q code next e = absurd (omega arith)
  char-by (suc g) l m r q code next e =
      let b : Good s i (Char code next) = rw e at (step-good s i l) in
      let here = wrong_here (rule_broken ty code (edge || closes_at s next)) i in
      record {
        fuel = g;
        inside = b.1;
        enough = omega arith;
        reads = rw (e, text_from) at r;
        wrongs = sym (first-assoc w here (wrong_from g ty s next (eqb code 32))) ∙ (rw (e, wrong_from) at q);
        tidy = sym (first-assoc w here none) ∙ ap (first_wrong w) (here-tidy _ i);
      }

  close-by : (f : ℕ) → i ≤ length s → length s < i + f → text_from f s i ≡ text_read_at s at → first_wrong w (wrong_from f ty s i edge) ≡ wrong_at ty s at → step_at s i ≡ Close → (text_read_at s at ≡ Ok (i + 1)) × (wrong_at ty s at ≡ first_wrong w none)
  unfolding text_from wrong_from
  close-by zero l m r q e = absurd (omega arith)
  close-by (suc g) l m r q e = (sym (rw (e, text_from) at r), sym (rw (e, wrong_from) at q))

  bad-by : (f : ℕ) → i ≤ length s → length s < i + f → text_from f s i ≡ text_read_at s at → first_wrong w (wrong_from f ty s i edge) ≡ wrong_at ty s at → (kind place : ℕ) → step_at s i ≡ Bad kind place → (text_read_at s at ≡ fault_at kind place) × (wrong_at ty s at ≡ first_wrong w none)
  unfolding text_from wrong_from
  bad-by zero l m r q kind place e = absurd (omega arith)
  bad-by (suc g) l m r q kind place e = (sym (rw (e, text_from) at r), sym (rw (e, wrong_from) at q))

both : (ty : TextType) (s : List ℕ) (at : ℕ) {r : Reading} {w : Wrong} → text_read_at s at ≡ r → wrong_at ty s at ≡ w → text_read ty s at ≡ record { reading = r; wrong = w }
unfolding text_read
both ty s at p q = rw (p, q)

module _ (ty : TextType) (s : List ℕ) (at : ℕ) (w : Wrong) (i : ℕ) (edge : Bool) (left : Left ty s at w i edge) where
  pub take-char : (code next rule : ℕ) (near : Bool) (v : Wrong) → step_at s i ≡ Char code next → near ≡ (edge || closes_at s next) → rule ≡ rule_broken ty code near → v ≡ first_wrong w (wrong_here rule i) → Left ty s at v next (eqb code 32)
  take-char code next rule near v e is_near is_rule is_first =
      rw (is_first, is_rule, is_near)
      (char-by ty s at w i edge left.fuel left.inside left.enough left.reads left.wrongs code next e)

  pub char_after : (code next : ℕ) → step_at s i ≡ Char code next → (i < next) × (next ≤ length s)
  char_after code next e = rw e at (step-good s i left.inside)

  pub close-inside : step_at s i ≡ Close → i < length s
  close-inside e = rw e at (step-good s i left.inside)

  pub take-close : step_at s i ≡ Close → text_read ty s at ≡ record { reading = Ok (i + 1); wrong = w }
  take-close e =
      let p = close-by ty s at w i edge left.fuel left.inside left.enough left.reads left.wrongs e in
      both ty s at p.0 (p.1 ∙ left.tidy)

  pub take-bad : (kind place : ℕ) → step_at s i ≡ Bad kind place → text_read ty s at ≡ record { reading = fault_at kind place; wrong = w }
  take-bad kind place e =
      let p = bad-by ty s at w i edge left.fuel left.inside left.enough left.reads left.wrongs kind place e in
      both ty s at p.0 (p.1 ∙ left.tidy)

-- ---- a run of bytes that are characters by themselves and break no rule
-- the bytes that a run passes pass its test
passed : (f : ℕ → Bool) (s : List ℕ) (i k : ℕ) → i ≤ k → k < i + leading f (drop i s) → f (byte_at s k) ≡ true
unfolding leading
passed f [] zero k l m =
    let n : k < 0 + 0 = m in
    absurd (omega (arith, n))
passed f [] (suc i) k l m =
    let n : k < suc i + 0 = m in
    absurd (omega (arith, n))
passed f (b ∷ bs) zero k l m = go (f b) refl (λ j n. passed f bs zero j (omega arith) n) k m
  where
    go : (t : Bool) → f b ≡ t → ((j : ℕ) → j < 0 + leading f bs → f (byte_at bs j) ≡ true) → (k : ℕ) → k < 0 + (elim t [ true ↦ suc (leading f bs) | false ↦ 0 ]) → f (byte_at (b ∷ bs) k) ≡ true
    go true e others zero m = e
    go true e others (suc k) m = others k (omega arith)
    go false e others k m = absurd (omega arith)
passed f (b ∷ bs) (suc i) zero l m = absurd (omega arith)
passed f (b ∷ bs) (suc i) (suc k) l m = passed f bs i k (omega arith) (omega arith)

-- and the one that it ends at, or the 0 past the end, does not
stopped : (f : ℕ → Bool) → f 0 ≡ false → (s : List ℕ) (i : ℕ) → f (byte_at s (i + leading f (drop i s))) ≡ false
unfolding leading
stopped f h [] zero = h
stopped f h [] (suc i) = h
stopped f h (b ∷ bs) zero = go (f b) refl (stopped f h bs zero)
  where
    go : (t : Bool) → f b ≡ t → f (byte_at bs (0 + leading f bs)) ≡ false → f (byte_at (b ∷ bs) (0 + (elim t [ true ↦ suc (leading f bs) | false ↦ 0 ]))) ≡ false
    go true e others = rw (zero-add (suc (leading f bs))) (rw (zero-add (leading f bs)) at others)
    go false e others = e
stopped f h (b ∷ bs) (suc i) = rw (suc-add i (leading f (drop i bs))) (stopped f h bs i)

pub run-over : (s : List ℕ) (i : ℕ) → is_graphic (byte_at s (run_end s i)) ≡ false
unfolding run_end is_graphic within
run-over s i = stopped is_graphic refl s i

pub run_of : (s : List ℕ) (i j : ℕ) → j ≡ run_end s i → Run s i j
unfolding run_end
run_of s i j is = record { onwards = omega (arith, is); graphic = λ k a b. passed is_graphic s i k a (rw is at b) }

not_first : (t u : Bool) → cond t false u ≡ true → (t ≡ false) × (u ≡ true)
not_first true u e = (cc, cc)
not_first false u e = (refl, e)

pub graphic-step : (s : List ℕ) (k : ℕ) → is_graphic (byte_at s k) ≡ true → (step_at s k ≡ Char (byte_at s k) (k + 1)) × (within 0x21 0x7E (byte_at s k) ≡ true)
unfolding is_graphic
graphic-step s k g =
    let quote : (eqb (byte_at s k) 34 ≡ false) × (cond (eqb (byte_at s k) 92) false (within 0x21 0x7E (byte_at s k)) ≡ true) = not_first (eqb (byte_at s k) 34) _ g in
    let slash : (eqb (byte_at s k) 92 ≡ false) × (within 0x21 0x7E (byte_at s k) ≡ true) = not_first (eqb (byte_at s k) 92) _ quote.1 in
    let from = within-from 0x21 0x7E (byte_at s k) slash.1 in
    let to = within-to 0x21 0x7E (byte_at s k) slash.1 in
    (own-step s k (omega (arith, from)) (omega (arith, to)) quote.0 slash.0, slash.1)

right-here : (w : Wrong) (i : ℕ) → first_wrong w none ≡ w → first_wrong w (wrong_here 0 i) ≡ w
unfolding wrong_here
right-here w i tidy = tidy

module _ (ty : TextType) (s : List ℕ) (at : ℕ) (w : Wrong) where
  -- a character from U+0021 to U+007E breaks no rule, and behind it there is no edge
  pub along-graphic : (i code next : ℕ) (edge : Bool) → Left ty s at w i edge → step_at s i ≡ Char code next → within 0x21 0x7E code ≡ true → Left ty s at w next false
  along-graphic i code next edge left step g =
      rw (ne_eqb code 32 (λ e. omega (arith, within-from 0x21 0x7E code g))) at
      (take-char ty s at w i edge left code next 0 (edge || closes_at s next) w step refl (sym (graphic-right code (within 0x21 0x7E code) refl g ty (edge || closes_at s next))) (sym (right-here w i left.tidy)))

  -- one of the run
  along_one : (i : ℕ) (edge : Bool) → Left ty s at w i edge → is_graphic (byte_at s i) ≡ true → Left ty s at w (i + 1) false
  along_one i edge left g =
      let one = graphic-step s i g in
      along-graphic i (byte_at s i) (i + 1) edge left one.0 one.1

  -- as many as there are
  along-all : (n i : ℕ) (edge : Bool) → Left ty s at w i edge → ((k : ℕ) → i ≤ k → k < i + suc n → is_graphic (byte_at s k) ≡ true) → Left ty s at w (i + suc n) false
  along-all zero i edge left g = along_one i edge left (g i (omega arith) (omega arith))
  along-all (suc n) i edge left g =
      let next : (i + 1) + suc n ≡ i + suc (suc n) = omega arith in
      rw next at (along-all n (i + 1) false (along_one i edge left (g i (omega arith) (omega arith))) (λ k l m. g k (omega arith) (omega arith)))

  pub along-run : (i j : ℕ) (edge : Bool) → Left ty s at w i edge → Run s i j → Left ty s at w j (edge_behind edge i j)
  unfolding edge_behind
  along-run i j edge left run = go (ltb i j) refl
    where
      go : (t : Bool) → ltb i j ≡ t → Left ty s at w j (cond t false edge)
      go true e =
          let l = ltb-true i j e in
          let is : i + suc (j - i - 1) ≡ j = omega (arith, l) in
          rw is at (along-all (j - i - 1) i edge left (λ k a b. run.graphic k a (omega (arith, is))))
      go false e =
          let is : i ≡ j = omega (arith, ltb-false i j e, run.onwards) in
          rw is at left

  pub along-end : (i j : ℕ) (edge : Bool) → Left ty s at w i edge → j ≡ run_end s i → Left ty s at w j (edge_behind edge i j)
  along-end i j edge left is = along-run i j edge left (run_of s i j is)

-- ---- words with single spaces between them
module _ (s : List ℕ) (k : ℕ) where
  pub graphic-in : is_graphic (byte_at s k) ≡ true → in_words s k ≡ true
  unfolding in_words
  graphic-in q = rw q

  -- what stands in words and is no graphic byte is a space before one
  space-in : is_graphic (byte_at s k) ≡ false → in_words s k ≡ true → (byte_at s k ≡ 32) × (is_graphic (byte_at s (k + 1)) ≡ true)
  unfolding in_words
  space-in q e =
      let both : (eqb (byte_at s k) 32 && is_graphic (byte_at s (k + 1))) ≡ true = rw q at e in
      (eqb-true (byte_at s k) 32 (both_left _ _ both), both_right (eqb (byte_at s k) 32) _ both)

  pub word_in : (byte_at s k ≡ 32 → ⊥) → in_words s k ≡ true → is_graphic (byte_at s k) ≡ true
  word_in n e = go (is_graphic (byte_at s k)) refl
    where
      go : (t : Bool) → is_graphic (byte_at s k) ≡ t → t ≡ true
      go true q = refl
      go false q = absurd (n (space-in q e).0)

  open-on : is_graphic (byte_at s k) ≡ true → closes_at s k ≡ false
  unfolding is_graphic closes_at
  open-on g = (not_first (eqb (byte_at s k) 34) _ g).0

no_edge : (edge t : Bool) → (edge ≡ true → t ≡ true) → t ≡ false → edge ≡ false
no_edge true t h q = sym (h refl) ∙ q
no_edge false t h q = refl

module _ (ty : TextType) (s : List ℕ) (at : ℕ) (w : Wrong) where
  -- a space that stands at no edge
  along-space : (i : ℕ) → Left ty s at w i false → byte_at s i ≡ 32 → closes_at s (i + 1) ≡ false → Left ty s at w (i + 1) true
  along-space i left space on =
      let step : step_at s i ≡ Char 32 (i + 1) = rw space at (own-step s i (omega (arith, space)) (omega (arith, space)) (ne_eqb (byte_at s i) 34 (λ e. omega (arith, space, e))) (ne_eqb (byte_at s i) 92 (λ e. omega (arith, space, e)))) in
      take-char ty s at w i false left 32 (i + 1) 0 false w step (sym on) (sym (space-right ty)) (sym (right-here w i left.tidy))

  -- at an edge, and at the end, no space stands
  along-each : (n i : ℕ) (edge : Bool) → Left ty s at w i edge → (edge ≡ true → is_graphic (byte_at s i) ≡ true) → ((k : ℕ) → i ≤ k → k < i + n → in_words s k ≡ true) → is_graphic (byte_at s (i + n)) ≡ false → Left ty s at w (i + n) false
  along-each zero i edge left h each ends =
      let here : is_graphic (byte_at s i) ≡ false = rw (add-zero i) at ends in
      rw (add-zero i) (rw (no_edge edge _ h here) at left)
  along-each (suc n) i edge left h each ends = go (is_graphic (byte_at s i)) refl (λ e l g. along-each n (i + 1) e l g (λ k a b. each k (omega arith) (omega arith)) (rw (sym next) at ends))
    where
      next : i + 1 + n ≡ i + suc n
      next = omega arith

      go : (t : Bool) → is_graphic (byte_at s i) ≡ t → ((e : Bool) → Left ty s at w (i + 1) e → (e ≡ true → is_graphic (byte_at s (i + 1)) ≡ true) → Left ty s at w (i + 1 + n) false) → Left ty s at w (i + suc n) false
      go true q rest = rw next at (rest false (along_one ty s at w i edge left q) (λ e. cc))
      go false q rest =
          let space = space-in s i q (each i (omega arith) (omega arith)) in
          rw next at (rest true (along-space i (rw (no_edge edge _ h q) at left) space.0 (open-on s (i + 1) space.1)) (λ e. space.1))

  pub along-words : (i j : ℕ) (edge : Bool) → Left ty s at w i edge → Words s i j → Left ty s at w j (edge_behind edge i j)
  unfolding edge_behind
  along-words i j edge left words = go (ltb i j) refl
    where
      go : (t : Bool) → ltb i j ≡ t → Left ty s at w j (cond t false edge)
      go true e =
          let l = ltb-true i j e in
          let is : i + (j - i) ≡ j = omega (arith, l) in
          rw is at (along-each (j - i) i edge left (λ _. words.begins l) (λ k a b. words.each k a (omega (arith, is))) (rw (sym is) at words.ends))
      go false e =
          let is : i ≡ j = omega (arith, ltb-false i j e, words.onwards) in
          rw is at left

module _ (ty : TextType) (s : List ℕ) (at : ℕ) where
  pub opened : at < length s → byte_at s at ≡ 34 → Left ty s at (record { rule = 0; place = 0 }) (at + 1) true
  unfolding text_read_at wrong_at first_wrong none
  opened l e =
      record {
        fuel = length s;
        inside = omega arith;
        enough = omega arith;
        reads = rw (eq-eqb (byte_at s at) 34 e);
        wrongs = rw (eq-eqb (byte_at s at) 34 e);
        tidy = refl;
      }

  pub unopened : (byte_at s at ≡ 34 → ⊥) → text_read ty s at ≡ record { reading = fault_at 11 at; wrong = record { rule = 0; place = 0 } }
  unfolding text_read_at wrong_at text_read none
  unopened n = rw (ne_eqb (byte_at s at) 34 n)
