-- The first wrong character that the reader finds is the first that breaks a rule over the decoded characters, with the
-- lowest rule that it breaks, at the place where it is written.
-- Assumes nothing.
use Rattle.std.specs.Prelude.{Ok}
use Prim.Native.Nat.{ℕ, zero, suc, ◌+◌, ◌-◌, ◌≤◌, ◌<◌}
use mathlib.Core.Path.{◌≡◌, refl, sym, ap, ◌∙◌}
use mathlib.Core.Bool.{Bool, true, false, cond, ◌||◌, true≢false, or_comm}
use mathlib.Core.List.{List, [], ◌∷◌}
use mathlib.Core.Logic.{◌↔◌, ◌⊎◌, inl, inr, ⊎_elim}
use native.Mathlib.Decide.{ℕ_discrete}
use native.Mathlib.Omega.{arith}
use borrow.Author.Tests.{eq-eqb, ne_eqb, lt-ltb}
use lib.ListN.{length, get_or}
use lib.Dec.{eqb}
use Rattle.json_bytes.specs.Reads.{byte_at}
use Rattle.json_bytes.proofs.Laws.{inside}
use Rattle.json_chars.specs.Step.{step_at}
use Rattle.json_chars.specs.Chars.{chars_at}
use Rattle.json_chars.specs.declared.Step.TheVariants.{Char, Close}
use Rattle.json_chars.proofs.Bounds.{step-good, Good}
use Rattle.json_number.proofs.Scale.{same_test}
use Rattle.json_text.specs.Text.{text_read_at, wrong_space, rule_broken, none, wrong_here, first_wrong, closes_at, wrong_from, wrong_at}
use Rattle.json_text.specs.declared.TextType.{TextType}
use Rattle.json_text.specs.declared.Wrong.{Wrong}
use Rattle.json_meaning.specs.Unicode.{is_surrogate}
use Rattle.json_meaning.specs.Strings.{char_places_at, Spelled, on_edge, rules_of, breaks_rule, FirstWrong}
use Rattle.json_meaning.proofs.Walk.{quote-closes, whole-string}

-- ---- The reader's walk, over the characters and their places
is_empty : List ℕ → Bool
is_empty [] = true
is_empty (c ∷ cs) = false

module _ (ty : TextType) where
  wrong_in : Bool → List ℕ → List ℕ → Wrong
  wrong_in edge [] ps = none
  wrong_in edge (c ∷ cs) [] = none
  wrong_in edge (c ∷ cs) (p ∷ ps) = first_wrong (wrong_here (rule_broken ty c (edge || is_empty cs)) p) (wrong_in (eqb c 32) cs ps)

module _ (s : List ℕ) where
  -- a character is the last exactly if the closing quote is behind it
  closes-empty : (i : ℕ) (cs ps : List ℕ) (close : ℕ) → Spelled s i cs ps close → closes_at s i ≡ is_empty cs
  unfolding closes_at is_empty
  closes-empty i [] [] close w = eq-eqb (byte_at s i) 34 w.1
  closes-empty i [] (p ∷ ps) close w = absurd w
  closes-empty i (c ∷ cs) [] close w = absurd w
  closes-empty i (c ∷ cs) (p ∷ ps) close w = ne_eqb (byte_at s i) 34 (λ e. apart (quote-closes s i e) w.1.1)
    where
      apart : {next : ℕ} → step_at s i ≡ Close → step_at s i ≡ Char c next → ⊥
      apart p q =
          let z : ◌≡◌ {A = ℕ} 0 1 = cc in
          omega arith

  spelled-length : (i : ℕ) (cs ps : List ℕ) (close : ℕ) → Spelled s i cs ps close → length cs ≡ length ps
  spelled-length i [] [] close w = refl
  spelled-length i [] (p ∷ ps) close w = absurd w
  spelled-length i (c ∷ cs) [] close w = absurd w
  spelled-length i (c ∷ cs) (p ∷ ps) close w = ap suc (spelled-length w.1.0 cs ps close w.1.2)

  wrong-walks : (ty : TextType) (f i : ℕ) (edge : Bool) (cs ps : List ℕ) (close : ℕ) → i ≤ length s → length s < i + f → Spelled s i cs ps close → wrong_from f ty s i edge ≡ wrong_in ty edge cs ps
  unfolding wrong_from wrong_in
  wrong-walks ty zero i edge cs ps close l m w = absurd (omega arith)
  wrong-walks ty (suc f) i edge [] [] close l m w = rw (quote-closes s i w.1, wrong_from)
  wrong-walks ty (suc f) i edge [] (p ∷ ps) close l m w = absurd w
  wrong-walks ty (suc f) i edge (c ∷ cs) [] close l m w = absurd w
  wrong-walks ty (suc f) i edge (c ∷ cs) (p ∷ ps) close l m w =
      let next : ℕ = w.1.0 in
      let e : step_at s i ≡ Char c next = w.1.1 in
      let b : Good s i (Char c next) = rw e at (step-good s i l) in
      rw (e, wrong_from, closes-empty next cs ps close w.1.2, wrong-walks ty f next (eqb c 32) cs ps close b.1 (omega arith) w.1.2, w.0)

-- ---- Edges: the walk carries one along, the rules ask the list
edge_in : Bool → List ℕ → ℕ → Bool
edge_in edge [] k = edge
edge_in edge (c ∷ cs) zero = edge || is_empty cs
edge_in edge (c ∷ cs) (suc k) = edge_in (eqb c 32) cs k

-- what stands before character k: what the walk began with, or whether a space does
before : Bool → List ℕ → ℕ → Bool
before edge cs zero = edge
before edge cs (suc k) = eqb (get_or cs k 0) 32

before-later : (edge : Bool) (c : ℕ) (cs : List ℕ) (k : ℕ) → before (eqb c 32) cs k ≡ before edge (c ∷ cs) (suc k)
unfolding before
before-later edge c cs zero = refl
before-later edge c cs (suc k) = refl

empty-last : (c : ℕ) (cs : List ℕ) → is_empty cs ≡ eqb (0 + 1) (length (c ∷ cs))
unfolding is_empty
empty-last c [] = refl
empty-last c (x ∷ xs) = sym (ne_eqb (0 + 1) (length (c ∷ x ∷ xs)) (omega arith))

edge-is : (edge : Bool) (cs : List ℕ) (k : ℕ) → k < length cs → edge_in edge cs k ≡ (before edge cs k || eqb (k + 1) (length cs))
unfolding edge_in before
edge-is edge [] k l = absurd (omega arith)
edge-is edge (c ∷ cs) zero l = rw (empty-last c cs)
edge-is edge (c ∷ cs) (suc k) l =
    let last : eqb (k + 1) (length cs) ≡ eqb (suc k + 1) (length (c ∷ cs)) = same_test {a = k + 1} {b = length cs} {c = suc k + 1} {d = length (c ∷ cs)} (λ e. omega arith) (λ e. omega arith) in
    edge-is (eqb c 32) cs k (omega arith) ∙ rw (before-later edge c cs k, last)

at_edge : (cs : List ℕ) (k : ℕ) → k < length cs → edge_in true cs k ≡ on_edge cs k
unfolding on_edge before
at_edge cs zero l = edge-is true cs zero l
at_edge cs (suc k) l =
    let here : suc k - 1 ≡ k = omega arith in
    edge-is true cs (suc k) l ∙ rw (ne_eqb (suc k) 0 (omega arith), here) (or_comm (eqb (get_or cs k 0) 32) (eqb (suc k + 1) (length cs)))

-- ---- The first of a list of tests that passes, counted from n; 0 where none does
first_true : ℕ → List Bool → ℕ
first_true n [] = 0
first_true n (b ∷ bs) = cond b n (first_true (n + 1) bs)

record Passes (bs : List Bool) (m : ℕ) : Type 0 where
  here : get_or bs m false ≡ true
  lowest : (k : ℕ) → k < m → get_or bs k false ≡ false

abbrev NonePass : List Bool → Type 0
NonePass bs = (m : ℕ) → get_or bs m false ≡ false

first-told : (n : ℕ) (bs : List Bool) → ((first_true n bs ≡ 0) × NonePass bs) ⊎ ((m : ℕ) × (first_true n bs ≡ n + m) × Passes bs m)
unfolding first_true
first-told n [] = inl (refl, λ m. refl)
first-told n (true ∷ bs) = inr (0, omega arith, record { here = refl; lowest = λ k l. absurd (omega arith) })
first-told n (false ∷ bs) =
    ⊎_elim
    (λ h. inl (h.0, λ m. none-later m h.1))
    (λ h. inr (suc h.0, h.1 ∙ omega arith, record { here = h.2.here; lowest = λ k l. low-later k h.0 h.2 l }))
    (first-told (n + 1) bs)
  where
    none-later : (m : ℕ) → NonePass bs → get_or (false ∷ bs) m false ≡ false
    none-later zero h = refl
    none-later (suc m) h = h m

    low-later : (k m : ℕ) → Passes bs m → k < suc m → get_or (false ∷ bs) k false ≡ false
    low-later zero m h l = refl
    low-later (suc k) m h l = h.lowest k (omega arith)

rule-is : (ty : TextType) (c : ℕ) (edge : Bool) → rule_broken ty c edge ≡ first_true 1 (rules_of ty c edge)
unfolding rule_broken wrong_space first_true is_surrogate
rule-is ty c edge = refl

-- ---- The walk finds the first
module _ (ty : TextType) where
  -- the rule that character k breaks, as the walk sees it
  rule_in : Bool → List ℕ → ℕ → ℕ
  rule_in edge cs k = rule_broken ty (get_or cs k 0) (edge_in edge cs k)

  record Found (edge : Bool) (cs ps : List ℕ) (k : ℕ) : Type 0 where
    within : k < length cs
    some : 0 < rule_in edge cs k
    earlier : (j : ℕ) → j < k → rule_in edge cs j ≡ 0
    is : wrong_in ty edge cs ps ≡ record { rule = rule_in edge cs k; place = get_or ps k 0 }

  record Nothing (edge : Bool) (cs ps : List ℕ) : Type 0 where
    each : (k : ℕ) → k < length cs → rule_in edge cs k ≡ 0
    is : wrong_in ty edge cs ps ≡ record { rule = 0; place = 0 }

  here-some : (rule p : ℕ) (v : Wrong) → 0 < rule → first_wrong (wrong_here rule p) v ≡ record { rule = rule; place = p }
  unfolding first_wrong wrong_here
  here-some rule p v l = rw (lt-ltb 0 rule l, lt-ltb 0 rule l)

  here-none : (rule p : ℕ) (v : Wrong) → rule ≡ 0 → first_wrong (wrong_here rule p) v ≡ v
  unfolding first_wrong wrong_here none
  here-none rule p v e = rw e

  walk-told : (edge : Bool) (cs ps : List ℕ) → length cs ≡ length ps → Nothing edge cs ps ⊎ ((k : ℕ) × Found edge cs ps k)
  unfolding wrong_in rule_in edge_in none
  walk-told edge [] ps e = inl (record { each = λ k l. absurd (omega arith); is = refl })
  walk-told edge (c ∷ cs) [] e = absurd (omega arith)
  walk-told edge (c ∷ cs) (p ∷ ps) e = go (ℕ_discrete (rule_broken ty c (edge || is_empty cs)) 0) (walk-told (eqb c 32) cs ps (omega arith))
    where
      go : Dec (rule_broken ty c (edge || is_empty cs) ≡ 0) → Nothing (eqb c 32) cs ps ⊎ ((k : ℕ) × Found (eqb c 32) cs ps k) → Nothing edge (c ∷ cs) (p ∷ ps) ⊎ ((k : ℕ) × Found edge (c ∷ cs) (p ∷ ps) k)
      go (no n) rest = inr (0, record { within = omega arith; some = omega arith; earlier = λ j l. absurd (omega arith); is = here-some _ p _ (omega arith) })
      go (yes z) (inl h) = inl (record { each = each; is = here-none _ p _ z ∙ h.is })
        where
          each : (k : ℕ) → k < length (c ∷ cs) → rule_in edge (c ∷ cs) k ≡ 0
          each zero l = z
          each (suc k) l = h.each k (omega arith)
      go (yes z) (inr h) = inr (suc h.0, record { within = omega (arith, h.1.within); some = h.1.some; earlier = earlier; is = here-none _ p _ z ∙ h.1.is })
        where
          earlier : (j : ℕ) → j < suc h.0 → rule_in edge (c ∷ cs) j ≡ 0
          earlier zero l = z
          earlier (suc j) l = h.1.earlier j (omega arith)

  -- ---- What the walk sees of character k is the rules that it breaks
  module _ (cs : List ℕ) (k : ℕ) (l : k < length cs) where
    rules-told : ((rule_in true cs k ≡ 0) × NonePass (rules_of ty (get_or cs k 0) (on_edge cs k))) ⊎ ((m : ℕ) × (rule_in true cs k ≡ 1 + m) × Passes (rules_of ty (get_or cs k 0) (on_edge cs k)) m)
    unfolding rule_in
    rules-told = rw (at_edge cs k l, rule-is ty (get_or cs k 0) (on_edge cs k)) (first-told 1 (rules_of ty (get_or cs k 0) (on_edge cs k)))

    rule-none : rule_in true cs k ≡ 0 → (m : ℕ) → breaks_rule ty cs k m ≡ false
    unfolding breaks_rule
    rule-none z = ⊎_elim (λ h. h.1) (λ h. absurd (omega (arith, h.1))) rules-told

    rule-some : 0 < rule_in true cs k → (m : ℕ) × (rule_in true cs k ≡ m + 1) × (breaks_rule ty cs k m ≡ true) × ((n : ℕ) → n < m → breaks_rule ty cs k n ≡ false)
    unfolding breaks_rule
    rule-some p = ⊎_elim (λ h. absurd (omega (arith, h.0))) (λ h. (h.0, omega (arith, h.1), h.2.here, h.2.lowest)) rules-told

  -- ---- There is one first wrong character, and one lowest rule that it breaks
  module _ {cs : List ℕ} {k n j m : ℕ} (f : FirstWrong ty cs k n) (g : FirstWrong ty cs j m) where
    not-later : j < k → ⊥
    not-later l = true≢false (sym g.here ∙ f.earlier j m l)

    not_lower : k ≡ j → m < n → ⊥
    not_lower e l = true≢false (sym g.here ∙ (rw e at (f.lowest m l)))

  one-first : {cs : List ℕ} {k n j m : ℕ} → FirstWrong ty cs k n → FirstWrong ty cs j m → (k ≡ j) × (n ≡ m)
  one-first {cs} {k} {n} {j} {m} f g = (same, between n m (not_lower f g same) (not_lower g f (sym same)))
    where
      between : (a b : ℕ) → (b < a → ⊥) → (a < b → ⊥) → a ≡ b
      between a b p q = omega arith

      same : k ≡ j
      same = between k j (not-later f g) (not-later g f)

-- ---- The laws
module _ (ty : TextType) (s : List ℕ) (at end : ℕ) (whole : text_read_at s at ≡ Ok end) where
  abbrev NoneBreaks : Type 0
  NoneBreaks = (k n : ℕ) → k < length (chars_at s at) → breaks_rule ty (chars_at s at) k n ≡ false

  walked : wrong_at ty s at ≡ wrong_in ty true (chars_at s at) (char_places_at s at)
  unfolding wrong_at
  walked =
      let w = whole-string s at end whole in
      let l = inside s at 34 w.2.opens (omega arith) in
      rw (eq-eqb (byte_at s at) 34 w.2.opens)
      (wrong-walks s ty (length s) (at + 1) true (chars_at s at) (char_places_at s at) w.0 (omega arith) (omega arith) w.2.spells)

  found_first : (k : ℕ) → Found ty true (chars_at s at) (char_places_at s at) k → (n : ℕ) × FirstWrong ty (chars_at s at) k n × (wrong_at ty s at ≡ record { rule = n + 1; place = get_or (char_places_at s at) k 0 })
  found_first k f =
      let w = rule-some ty (chars_at s at) k f.within f.some in (
        w.0,
        record {
          inside = f.within;
          here = w.2;
          lowest = w.3;
          earlier = λ j m l. rule-none ty (chars_at s at) j (omega (arith, f.within)) (f.earlier j l) m;
        },
        walked ∙ f.is ∙ ap (λ (x : ℕ). record { rule = x; place = get_or (char_places_at s at) k 0 }) w.1,
      )

  told : ((wrong_at ty s at ≡ record { rule = 0; place = 0 }) × NoneBreaks) ⊎ ((k : ℕ) × (n : ℕ) × FirstWrong ty (chars_at s at) k n × (wrong_at ty s at ≡ record { rule = n + 1; place = get_or (char_places_at s at) k 0 }))
  told =
      let w = whole-string s at end whole in
      ⊎_elim
      (λ h. inl (walked ∙ h.is, λ k n l. rule-none ty (chars_at s at) k l (h.each k l) n))
      (λ h. (let f = found_first h.0 h.1 in inr (h.0, f.0, f.1, f.2)))
      (walk-told ty true (chars_at s at) (char_places_at s at) (spelled-length s (at + 1) (chars_at s at) (char_places_at s at) w.0 w.2.spells))

  -- no character is wrong exactly if none breaks a rule
  pub none-wrong : (wrong_at ty s at ≡ record { rule = 0; place = 0 }) ↔ NoneBreaks
  none-wrong =
      ⊎_elim
      (λ h. (λ _. h.1, λ _. h.0))
      (λ h. (
        λ e. (let z : 0 ≡ h.1 + 1 = ap (λ (w : Wrong). w.rule) (sym e ∙ h.3) in absurd (omega arith)),
        λ none. absurd (true≢false (sym h.2.here ∙ none h.0 h.1 h.2.inside)),
      ))
      told

  -- the first wrong character breaks rule n, kind 30 + n, exactly if it is the first over the decoded characters that breaks one,
  -- n is the lowest that it breaks, and the place is where it is written
  pub first-wrong : (n place : ℕ) → (wrong_at ty s at ≡ record { rule = n + 1; place = place }) ↔ ((k : ℕ) × FirstWrong ty (chars_at s at) k n × (place ≡ get_or (char_places_at s at) k 0))
  first-wrong n place =
      ⊎_elim
      (λ h. (
        λ e. (let z : 0 ≡ n + 1 = ap (λ (w : Wrong). w.rule) (sym h.0 ∙ e) in absurd (omega arith)),
        λ f. absurd (true≢false (sym f.1.here ∙ h.1 f.0 n f.1.inside)),
      ))
      (λ h. (
        λ e.
            (let rules : h.1 + 1 ≡ n + 1 = ap (λ (w : Wrong). w.rule) (sym h.3 ∙ e) in
            let same : h.1 ≡ n = omega arith in
            (h.0, rw same at h.2, sym (ap (λ (w : Wrong). w.place) (sym h.3 ∙ e)))),
        λ f.
            (let one = one-first ty h.2 f.1 in
            rw (one.0, one.1, sym f.2) at h.3),
      ))
      told
