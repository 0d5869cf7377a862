-- The characters that a string is decoded to are those that the grammar's string means.
-- Assumes nothing.
use Rattle.std.specs.Prelude.{Ok}
use Prim.Native.Nat.{ℕ, zero, suc, ◌+◌, ◌*◌, ◌-◌, ◌≤◌, ◌<◌}
use mathlib.Core.Path.{◌≡◌, refl, sym, ap, ◌∙◌}
use mathlib.Core.Bool.{Bool, true, false, cond, ◌&&◌}
use mathlib.Core.List.{List, [], ◌∷◌}
use native.Mathlib.Omega.{arith}
use borrow.Author.Tests.{eq-eqb}
use lib.ListN.{length, drop}
use Rattle.json_bytes.specs.Reads.{byte_at, within}
use Rattle.json_bytes.proofs.Laws.{inside}
use Rattle.json_chars.specs.Step.{is_pair, escaped_at, surrogates_joined, step_at}
use Rattle.json_chars.specs.Chars.{chars_from, chars_at}
use Rattle.json_chars.specs.declared.Step.TheVariants.{Char, Close}
use Rattle.json_chars.proofs.Bounds.{Good, step-good}
use Rattle.grammar.specs.Grammar
use Rattle.grammar.specs.Grammar.{Bytes, From, Characters, String, meant}
use Rattle.grammar_machine.proofs.Complete.{outside}
use Rattle.grammar_chars.proofs.Codes.{first_of, left-of, not-escaped, Steps, alone, unit, character-step}

-- ---- Pairs
and_none : (t : Bool) → (t && false) ≡ false
and_none true = refl
and_none false = refl

no-low : (high low : ℕ) → (From 0xDC00 0xDFFF low → ⊥) → is_pair high low ≡ false
unfolding is_pair
no-low high low n = rw (outside 0xDC00 0xDFFF low n) (and_none (within 0xD800 0xDBFF high))

no-high : (high low : ℕ) → (From 0xD800 0xDBFF high → ⊥) → is_pair high low ≡ false
unfolding is_pair
no-high high low n = rw (outside 0xD800 0xDBFF high n)

same-pair : (high low : ℕ) → Grammar.is_pair high low ≡ is_pair high low
unfolding is_pair Grammar.is_pair within
same-pair high low = refl

-- what stands behind an escape is the low half of a pair if its code is
same_low : (s : Bytes) (i c : ℕ) (r : Bytes) → Steps s i c r → (high : ℕ) → is_pair high (escaped_at s i) ≡ Grammar.is_pair high c
same_low s i c r (alone next l e n z) high =
    rw z (no-low high 0 (omega arith)) ∙ sym (same-pair high c ∙ no-low high c (λ h. n (omega arith)))
same_low s i c r (unit b l e z) high = rw z (sym (same-pair high c))

twelve : (i : ℕ) → i + 6 + 6 ≡ i + 12
twelve i = omega arith

-- ---- The steps from a place inside a string to behind its closing quote, with the codes that they give
pub data Walk (s : Bytes) : ℕ → List ℕ → ℕ → Type 0 where
  closes : {i : ℕ} → step_at s i ≡ Close → Walk s i [] (i + 1)
  steps : {i c next end : ℕ} {cs : List ℕ} → step_at s i ≡ Char c next → Walk s next cs end → Walk s i (c ∷ cs) end

pub record Walked (s : Bytes) (i : ℕ) (cs : List ℕ) (r : Bytes) : Type 0 where
  pub end : ℕ
  pub walk : Walk s i cs end
  pub left : drop end s ≡ r

module _ (s : Bytes) where
  one_more : {i c next : ℕ} {cs : List ℕ} {r : Bytes} → step_at s i ≡ Char c next → Walked s next cs r → Walked s i (c ∷ cs) r
  one_more e w = record { end = w.end; walk = steps e w.walk; left = w.left }

  at-quote : {i : ℕ} {r : Bytes} → drop i s ≡ 34 ∷ r → Walked s i [] r
  unfolding step_at
  at-quote {i} e = record { end = i + 1; walk = closes {i = i} (rw (first_of s i e)); left = left-of s i e 1 }

  -- an escape of four digits is one character, or half of one
  module _ (i c : ℕ) (e : step_at s i ≡ surrogates_joined s i (Ok c)) where
    unpaired : is_pair c (escaped_at s (i + 6)) ≡ false → step_at s i ≡ Char c (i + 6)
    unfolding surrogates_joined
    unpaired n = e ∙ rw n

    paired : (low : ℕ) → escaped_at s (i + 6) ≡ low → is_pair c low ≡ true → step_at s i ≡ Char (0x10000 + (c - 0xD800) * 0x400 + (low - 0xDC00)) (i + 12)
    unfolding surrogates_joined
    paired low l y = e ∙ rw (l, y)

  -- a character before the closing quote
  last-walk : {i c : ℕ} {r : Bytes} → Steps s i c (34 ∷ r) → Walked s i (c ∷ []) r
  last-walk (alone next l e n z) = one_more e (at-quote l)
  last-walk {i} {c} (unit b l e z) =
      one_more (unpaired i c e (rw (not-escaped s (i + 6) (rw (first_of s (i + 6) l) (omega arith))) (no-low c 0 (omega arith)))) (at-quote l)

  -- a character before another
  two-walk : (i c d : ℕ) (m n r : Bytes) (cs : List ℕ) → Steps s i c m → ((j : ℕ) → drop j s ≡ m → Steps s j d n) → ((j : ℕ) → drop j s ≡ m → Walked s j (meant (d ∷ cs)) r) → ((j : ℕ) → drop j s ≡ n → Walked s j (meant cs) r) → Walked s i (meant (c ∷ d ∷ cs)) r
  unfolding meant
  two-walk i c d m n r cs (alone next l e o z) other more after =
      rw (same-pair c d ∙ no-high c d (λ h. o (omega arith))) (one_more e (more next l))
  two-walk i c d m n r cs (unit b l e z) other more after = go (Grammar.is_pair c d) refl (other (i + 6) l)
    where
      go : (t : Bool) → Grammar.is_pair c d ≡ t → Steps s (i + 6) d n → Walked s i (cond t ((0x10000 + (c - 0xD800) * 0x400 + (d - 0xDC00)) ∷ meant cs) (c ∷ meant (d ∷ cs))) r
      go true p (unit b k f y) = one_more (paired i c e d y (sym (same-pair c d) ∙ p)) (after (i + 12) (rw (twelve i) at k))
      go true p (alone next k f o y) =
          let q : is_pair c d ≡ false = no-low c d (λ h. o (omega arith)) in
          absurd (let z : ◌≡◌ {A = ℕ} 0 1 = cc (same-pair c d) in omega arith)
      go false p h = one_more (unpaired i c e (same_low s (i + 6) d n h c ∙ p)) (more (i + 6) l)

  characters-walk : {l r : Bytes} {cs : List ℕ} → Characters l cs r → (i : ℕ) → drop i s ≡ l → Walked s i (meant cs) r
  unfolding meant
  characters-walk Characters.end_quote i e = at-quote e
  characters-walk (Characters.char h Characters.end_quote) i e = last-walk (character-step s i h e)
  characters-walk (Characters.char {c = c} h (Characters.char {l = m} {m = n} {r = r} {c = d} {cs = cs} g t)) i e =
      two-walk i c d m n r cs (character-step s i h e) (λ j q. character-step s j g q)
      (λ j q. characters-walk (Characters.char g t) j q) (λ j q. characters-walk t j q)

-- ---- So the decoding gives what is meant
chars-by : (s : Bytes) {i end : ℕ} {cs : List ℕ} → Walk s i cs end → (f : ℕ) → i ≤ length s → length s < i + f → chars_from f s i ≡ cs
unfolding chars_from
chars-by s (closes e) zero l m = absurd (omega arith)
chars-by s (closes e) (suc f) l m = rw (chars_from, e)
chars-by s (steps e w) zero l m = absurd (omega arith)
chars-by s (steps {i = i} {c = c} {next = next} e w) (suc f) l m =
    let g : Good s i (Char c next) = rw e at (step-good s i l) in
    rw (chars_from, e) (ap (λ (cs : List ℕ). c ∷ cs) (chars-by s w f g.1 (omega (arith, g.0))))

module _ (s : Bytes) (at : ℕ) where
  -- a string of the grammar at a place, step by step
  pub string-walk : {l r : Bytes} {cs : List ℕ} → String l cs r → drop at s ≡ l → (byte_at s at ≡ 34) × Walked s (at + 1) (meant cs) r
  string-walk (String.quoted t) e = (first_of s at e, characters-walk s t (at + 1) (left-of s at e 1))

  -- the law of decoding
  pub string-means : {r : Bytes} {cs : List ℕ} → String (drop at s) cs r → chars_at s at ≡ meant cs
  unfolding chars_at
  string-means {r} {cs} t =
      let w : (byte_at s at ≡ 34) × Walked s (at + 1) (meant cs) r = string-walk t refl in
      let l : at < length s = inside s at 34 w.0 (omega arith) in
      rw (eq-eqb (byte_at s at) 34 w.0) (chars-by s w.1.walk (length s) (omega arith) (omega arith))
