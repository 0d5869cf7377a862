-- One turn of a walk along two strings, or along a string and a word.
-- Assumes nothing.
use Prim.Native.Nat.{ℕ, ◌+◌, ◌-◌, ◌<◌, ◌≤◌}
use mathlib.Core.Path.{◌≡◌, refl, sym, ◌∙◌}
use mathlib.Core.Bool.{Bool, true, false, cond}
use mathlib.Core.List.{List, [], ◌∷◌}
use native.Mathlib.Numerals.{add-one}
use native.Mathlib.Omega.{arith}
use borrow.Author.Tests.{eq-eqb, ne_eqb, le-ltb, lt-ltb, eqb-true, eqb-false, leb-true, leb-false}
use lib.ListN.{length, take, drop, drop_of_length-le, get_or-eq_default}
use lib.Seq.{drop-cons}
use lib.Dec.{leb, eqb, lit<}
use Rattle.json_bytes.specs.Reads.{byte_at, within}
use Rattle.json_bytes.proofs.Laws.{inside, by-test, within-from, within-to}
use Rattle.json_chars.specs.Step.{step_at}
use Rattle.json_chars.specs.Chars.{chars_from, chars_at}
use Rattle.json_chars.specs.declared.Step.{Step}
use Rattle.json_chars.specs.declared.Step.TheVariants.{Char, Close, Bad}
use Rattle.json_chars.proofs.Bounds.{step-good, Good}
use Rattle.json_chars.proofs.Plain.{closing-step}
use Rattle.json_chars.proofs.Walk.{Left, Taken, take-char, take-close, take-bad, opened, unopened}
use Rattle.json_same.specs.declared.Case.{Case}
use Rattle.json_same.specs.declared.Pair.TheVariants.{Same, Apart}
use Rattle.json_same.specs.Same.{cased_as, same_list, same_as, is_plain}
use Rattle.std.specs.Prelude.{Option, Some, None}
use Rattle.json_same.specs.Walk.{Alike, beginning, is_end, run_from}
use Rattle.json_same.proofs.Pairs.{Plain, same-told, apart-told, At, run_on, run-parts}
use Rattle.json_same.proofs.Alike.{behind-alike}

-- ---- where the characters begin
-- past the last byte there is none
cut_off : (s : List ℕ) → step_at s (length s) ≡ Bad 11 (length s)
unfolding step_at
cut_off s = rw (get_or-eq_default s 0 {n = length s} (omega arith))

none_left : (s : List ℕ) → Left s (length s) []
unfolding chars_from
none_left s = record { fuel = 1; inside = omega arith; enough = omega arith; reads = rw (cut_off s, chars_from) }

pub begins : (s : List ℕ) (at i : ℕ) → i ≡ beginning s at → Left s i (chars_at s at)
unfolding beginning
begins s at i e =
    rw e (by-test (λ (n : ℕ). Left s n (chars_at s at)) (eqb (byte_at s at) 34) (at + 1) (length s)
    (λ t. let q : byte_at s at ≡ 34 = eqb-true _ _ t in opened s at (inside s at 34 q (lit< tt)) q)
    (λ f. rw (unopened s at (eqb-false _ _ f)) (none_left s)))

-- ---- a character ends behind its place, and within the file
pub goes_on : (s : List ℕ) (i : ℕ) (cs : List ℕ) → Left s i cs → (code next : ℕ) → step_at s i ≡ Char code next → Good s i (Char code next)
goes_on s i cs w code next e = rw e at (step-good s i w.inside)

-- ---- a plain byte is its own character
not_first : (t u : Bool) → cond t false u ≡ true → (t ≡ false) × (u ≡ true)
not_first true u e = (cc, cc)
not_first false u e = (refl, e)

pub plain_step : (s : List ℕ) (i b : ℕ) → b ≡ byte_at s i → is_plain b ≡ true → step_at s i ≡ Char b (i + 1)
unfolding is_plain step_at
plain_step s i b is p =
    let quote : (eqb b 34 ≡ false) × (cond (eqb b 92) false (within 32 127 b) ≡ true) = not_first (eqb b 34) _ p in
    let slash : (eqb b 92 ≡ false) × (within 32 127 b ≡ true) = not_first (eqb b 92) _ quote.1 in
    rw (← is, le-ltb b 32 (within-from 32 127 b slash.1), quote.0, slash.0, lt-ltb b 128 (omega (arith, within-to 32 127 b slash.1)))

-- ---- where they end
-- a step that is no character, told by its tag
pub end-by-tag : (e : Step) → ((code next : ℕ) → e ≡ Char code next → ⊥) → is_end e ≡ true
unfolding is_end
end-by-tag (Char code next) k = absurd (k code next refl)
end-by-tag Close k = refl
end-by-tag (Bad kind place) k = refl

module _ (s : List ℕ) (i : ℕ) (cs : List ℕ) (w : Left s i cs) where
  take-end : (e : Step) → e ≡ step_at s i → is_end e ≡ true → cs ≡ []
  unfolding is_end
  take-end (Char code next) q t = cc
  take-end Close q t = take-close s i cs w (sym q)
  take-end (Bad kind place) q t = take-bad s i cs w kind place (sym q)

  -- nothing is the same as what is left exactly if nothing is left
  pub nothing_left : (case : Case) (e : Step) → e ≡ step_at s i → is_end e ≡ same_as case [] cs
  unfolding is_end same_as same_list
  nothing_left case (Char code next) q = rw (take-char s i cs w code next (sym q)).first
  nothing_left case Close q = rw (take-close s i cs w (sym q))
  nothing_left case (Bad kind place) q = rw (take-bad s i cs w kind place (sym q))

-- ---- a string's characters against a list of characters: comparing what is left of both answers as comparing the whole
pub record Against (case : Case) (s : List ℕ) (i : ℕ) (ys : List ℕ) (whole : Bool) : Type 0 where
  pub cs : List ℕ
  pub left : Left s i cs
  pub rest : whole ≡ same_as case cs ys

same_more : (case : Case) (c d : ℕ) (xs ys cs ds : List ℕ) → cs ≡ c ∷ xs → ds ≡ d ∷ ys → cased_as case c ≡ cased_as case d → same_as case cs ds ≡ same_as case xs ys
unfolding same_as same_list
same_more case c d xs ys cs ds p q e = rw (p, q, eq-eqb _ _ e)

module _ (case : Case) (s : List ℕ) (i : ℕ) (ys : List ℕ) (whole : Bool) (w : Against case s i ys whole) where
  pub against-end : (e : Step) → e ≡ step_at s i → is_end e ≡ true → whole ≡ same_as case [] ys
  against-end e q t = rw (← take-end s i w.cs w.left e q t) w.rest

  module _ (code next : ℕ) (e : step_at s i ≡ Char code next) where
    pub against-longer : ys ≡ [] → whole ≡ false
    unfolding same_as same_list
    against-longer q = w.rest ∙ rw (q, (take-char s i w.cs w.left code next e).first)

    module _ (d : ℕ) (others : List ℕ) (q : ys ≡ d ∷ others) where
      pub against-more : cased_as case code ≡ cased_as case d → Against case s next others whole
      against-more p =
          let t : Taken s code next w.cs = take-char s i w.cs w.left code next e in
          record { cs = t.others; left = t.left; rest = w.rest ∙ same_more case code d t.others others w.cs ys t.first q p }

      pub against-differs : (cased_as case code ≡ cased_as case d → ⊥) → whole ≡ false
      unfolding same_as same_list
      against-differs n = w.rest ∙ rw (q, (take-char s i w.cs w.left code next e).first, ne_eqb _ _ n)

-- ---- what is left of a word
module _ (word : List ℕ) (k : ℕ) where
  pub next-letter : k < length word → drop k word ≡ byte_at word k ∷ drop (k + 1) word
  next-letter l = drop-cons word k 0 l ∙ rw (add-one k)

  pub word-ends : (case : Case) → same_as case [] (drop k word) ≡ leb (length word) k
  unfolding same_as same_list
  word-ends case = go (leb (length word) k) refl
    where
      go : (t : Bool) → leb (length word) k ≡ t → same_as case [] (drop k word) ≡ t
      go true e = rw (drop_of_length-le word (leb-true _ _ e))
      go false e = rw (next-letter (leb-false _ _ e))

-- ---- a string's characters against those of another
pub record Both (case : Case) (a : List ℕ) (x : ℕ) (b : List ℕ) (y : ℕ) (whole : Bool) : Type 0 where
  pub ys : List ℕ
  pub left : Left b y ys
  pub against : Against case a x ys whole

pub both-start : (case : Case) (a : List ℕ) (i x : ℕ) (b : List ℕ) (j y : ℕ) → x ≡ beginning a i → y ≡ beginning b j → Both case a x b y (same_as case (chars_at a i) (chars_at b j))
both-start case a i x b j y p q =
    record { ys = chars_at b j; left = begins b j y q; against = record { cs = chars_at a i; left = begins a i x p; rest = refl } }

module _ (case : Case) (a : List ℕ) (x : ℕ) (b : List ℕ) (y : ℕ) (whole : Bool) (w : Both case a x b y whole) where
  pub both_end : (e : Step) → e ≡ step_at a x → is_end e ≡ true → (f : Step) → f ≡ step_at b y → is_end f ≡ whole
  both_end e p t f q = nothing_left b y w.ys w.left case f q ∙ sym (against-end case a x w.ys whole w.against e p t)

  -- the first stands at its closing quote
  pub both-close : byte_at a x ≡ 34 → (f : Step) → f ≡ step_at b y → is_end f ≡ whole
  unfolding is_end
  both-close e = both_end Close (sym (closing-step a x e)) refl

  module _ (code next : ℕ) (e : step_at a x ≡ Char code next) where
    pub both-longer : (f : Step) → f ≡ step_at b y → is_end f ≡ true → whole ≡ false
    both-longer f q t = against-longer case a x w.ys whole w.against code next e (take-end b y w.ys w.left f q t)

    module _ (other behind : ℕ) (f : step_at b y ≡ Char other behind) where
      pub both-more : cased_as case code ≡ cased_as case other → Both case a next b behind whole
      both-more p =
          let t : Taken b other behind w.ys = take-char b y w.ys w.left other behind f in
          record { ys = t.others; left = t.left; against = against-more case a x w.ys whole w.against code next e other t.others t.first p }

      pub both-differ : (cased_as case code ≡ cased_as case other → ⊥) → whole ≡ false
      both-differ n =
          let t : Taken b other behind w.ys = take-char b y w.ys w.left other behind f in
          against-differs case a x w.ys whole w.against code next e other t.others t.first n

-- ---- a run of plain bytes along two strings
module _ (case : Case) (a b : List ℕ) (whole : Bool) where
  both-same : (u v : ℕ) → At case a u b v Same → Both case a u b v whole → Both case a (u + 1) b (v + 1) whole
  both-same u v t w =
      let m : Plain (byte_at a u) (byte_at b v) (cased_as case (byte_at a u) ≡ cased_as case (byte_at b v)) = same-told case _ _ t.told in
      both-more case a u b v whole w _ _ (plain_step a u _ refl m.one) _ _ (plain_step b v _ refl m.other) m.compared

  both-apart : (u v : ℕ) → At case a u b v Apart → Both case a u b v whole → whole ≡ false
  both-apart u v t w =
      let m : Plain (byte_at a u) (byte_at b v) (cased_as case (byte_at a u) ≡ cased_as case (byte_at b v) → ⊥) = apart-told case _ _ t.told in
      both-differ case a u b v whole w _ _ (plain_step a u _ refl m.one) _ _ (plain_step b v _ refl m.other) m.compared

  module _ (x y : ℕ) (w : Both case a x b y whole) (r : Option ℕ) (is : r ≡ run_from case 0 (take (length a - x) (drop x a)) (take (length b - y) (drop y b))) where
    pub both-on : (n : ℕ) → r ≡ Some n → Both case a (x + n) b (y + n) whole
    both-on = run_on case a x b y (λ u v. Both case a u b v whole) (whole ≡ false) both-same both-apart w r is

    pub both-part : r ≡ None → whole ≡ false
    both-part = run-parts case a x b y (λ u v. Both case a u b v whole) (whole ≡ false) both-same both-apart w r is

  -- bytes that are alike, passed at once: the same byte is the same character, as it is compared in either case
  pub both-alike : (x y : ℕ) → Both case a x b y whole → (n : ℕ) → Alike a x b y n → Both case a (x + n) b (y + n) whole
  both-alike =
      behind-alike a b (λ u v. Both case a u b v whole)
      (λ u v e t w. both-more case a u b v whole w _ _ (plain_step a u _ refl t) _ _ (plain_step b v _ e t) refl)

-- ---- and along a string and what is left of a word
pub record Worded (case : Case) (s : List ℕ) (i : ℕ) (word : List ℕ) (k : ℕ) (whole : Bool) : Type 0 where
  pub within_word : k ≤ length word
  pub against : Against case s i (drop k word) whole

module _ (case : Case) (s word : List ℕ) (whole : Bool) where
  word_same : (u v : ℕ) → At case s u word v Same → Worded case s u word v whole → Worded case s (u + 1) word (v + 1) whole
  word_same u v t w =
      let m : Plain (byte_at s u) (byte_at word v) (cased_as case (byte_at s u) ≡ cased_as case (byte_at word v)) = same-told case _ _ t.told in
      record {
        within_word = omega (arith, t.other);
        against = against-more case s u (drop v word) whole w.against _ _ (plain_step s u _ refl m.one) _ _ (next-letter word v t.other) m.compared;
      }

  word-apart : (u v : ℕ) → At case s u word v Apart → Worded case s u word v whole → whole ≡ false
  word-apart u v t w =
      let m : Plain (byte_at s u) (byte_at word v) (cased_as case (byte_at s u) ≡ cased_as case (byte_at word v) → ⊥) = apart-told case _ _ t.told in
      against-differs case s u (drop v word) whole w.against _ _ (plain_step s u _ refl m.one) _ _ (next-letter word v t.other) m.compared

  module _ (i k : ℕ) (w : Worded case s i word k whole) (r : Option ℕ) (is : r ≡ run_from case 0 (take (length s - i) (drop i s)) (take (length word - k) (drop k word))) where
    pub word_on : (n : ℕ) → r ≡ Some n → Worded case s (i + n) word (k + n) whole
    word_on = run_on case s i word k (λ u v. Worded case s u word v whole) (whole ≡ false) word_same word-apart w r is

    pub word-part : r ≡ None → whole ≡ false
    word-part = run-parts case s i word k (λ u v. Worded case s u word v whole) (whole ≡ false) word_same word-apart w r is
