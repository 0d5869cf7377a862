-- Whitespace: what holds of any table of runs, and what the two tables are, computed once over each of them whole; and
-- the characters that break no rule at any place.
-- Assumes nothing.
use Rattle.std.proofs.Common.{◌≡◌, ℕ, zero, suc, ◌+◌, ◌-◌, ◌<◌, ◌≤◌, Bool, true, false, ◌&&◌, ◌||◌, eqb, ltb, leb, List, [], ◌∷◌, ◌++◌, length, get_or, drop, sym, refl, ap, ◌∙◌, add-one, arith, drop_of_length-le, drop-cons, ltb-true, ne_eqb, le-leb, leb-false, leb-true}
use borrow.Author.Tests.{lt-leb, eqb-false}
use Rattle.json_bytes.specs.Reads.{within}
use Rattle.json_bytes.proofs.Laws.{both_left, both_right, within-from, within-to}
use Rattle.json_text.specs.Text.{barred, white_space, blanks, spaces_of, in_runs, is_white, wrong_space, outside_id, rule_broken}
use Rattle.json_text.specs.declared.TextType.{TextType}
use Rattle.json_text.specs.declared.TextType.TheVariants.{Text, String, StringID}

-- ---- one turn of the loop over the runs
module _ (runs : List (List ℕ)) (c i : ℕ) where
  abbrev here : Bool
  here = within (get_or (get_or runs i []) 0 0) (get_or (get_or runs i []) 1 0) c

  pub run_holds : i < length runs → here ≡ true → in_runs (drop i runs) c ≡ true
  unfolding in_runs
  run_holds l e = rw (drop-cons runs i [] l, in_runs, e)

  pub run-passed : i < length runs → here ≡ false → in_runs (drop i runs) c ≡ in_runs (drop (i + 1) runs) c
  unfolding in_runs
  run-passed l e = rw (drop-cons runs i [] l, in_runs, e, add-one i)

  pub runs-end : length runs ≤ i → in_runs (drop i runs) c ≡ false
  unfolding in_runs
  runs-end l = rw (drop_of_length-le runs l)

-- ---- the codes of a table one by one
unfoldable pub codes_from : ℕ → ℕ → List ℕ
codes_from first zero = []
codes_from first (suc n) = first ∷ codes_from (suc first) n

abbrev codes_of : List ℕ → List ℕ
codes_of run = codes_from (get_or run 0 0) (suc (get_or run 1 0) - get_or run 0 0)

unfoldable pub codes_in : List (List ℕ) → List ℕ
codes_in [] = []
codes_in (run ∷ runs) = codes_of run ++ codes_in runs

unfoldable pub is_one_of : List ℕ → ℕ → Bool
is_one_of [] c = false
is_one_of (code ∷ codes) c = eqb c code || is_one_of codes c

module _ (c : ℕ) where
  one-of-both : (xs ys : List ℕ) → is_one_of (xs ++ ys) c ≡ (is_one_of xs c || is_one_of ys c)
  unfolding is_one_of
  one-of-both [] ys = refl
  one-of-both (x ∷ xs) ys = go (eqb c x) (one-of-both xs ys)
    where
      go : (t : Bool) → is_one_of (xs ++ ys) c ≡ (is_one_of xs c || is_one_of ys c) → (t || is_one_of (xs ++ ys) c) ≡ ((t || is_one_of xs c) || is_one_of ys c)
      go true e = refl
      go false e = e

  below_all : (n first : ℕ) → c < first → is_one_of (codes_from first n) c ≡ false
  unfolding is_one_of codes_from
  below_all zero first h = refl
  below_all (suc n) first h = rw (ne_eqb c first (λ e. omega (arith, e))) (below_all n (suc first) (omega arith))

  above-all : (n first : ℕ) → first + n ≤ c → is_one_of (codes_from first n) c ≡ false
  unfolding is_one_of codes_from
  above-all zero first h = refl
  above-all (suc n) first h = rw (ne_eqb c first (λ e. omega (arith, e))) (above-all n (suc first) (omega arith))

  among-them : (n first : ℕ) → first ≤ c → c < first + n → is_one_of (codes_from first n) c ≡ true
  unfolding is_one_of codes_from
  among-them zero first h l = absurd (omega arith)
  among-them (suc n) first h l = go (eqb c first) refl (λ m. among-them n (suc first) m (omega arith))
    where
      go : (t : Bool) → eqb c first ≡ t → (first < c → is_one_of (codes_from (suc first) n) c ≡ true) → (t || is_one_of (codes_from (suc first) n) c) ≡ true
      go true e rest = refl
      go false e rest = rest (omega (arith, eqb-false c first e))

  run-codes : (first last : ℕ) → within first last c ≡ is_one_of (codes_from first (suc last - first)) c
  unfolding within
  run-codes first last = go (leb first c) (leb c last) refl refl
    where
      go : (s t : Bool) → leb first c ≡ s → leb c last ≡ t → (s && t) ≡ is_one_of (codes_from first (suc last - first)) c
      go true true e f = sym (among-them _ first (leb-true first c e) (omega (arith, leb-true first c e, leb-true c last f)))
      go true false e f = sym (above-all _ first (omega (arith, leb-true first c e, leb-false c last f)))
      go false t e f = sym (below_all _ first (leb-false first c e))

  -- a code is in the runs exactly if it is one of theirs
  pub in-runs : (runs : List (List ℕ)) → in_runs runs c ≡ is_one_of (codes_in runs) c
  unfolding in_runs codes_in is_one_of
  in-runs [] = refl
  in-runs (run ∷ runs) = rw (run-codes (get_or run 0 0) (get_or run 1 0), in-runs runs) (sym (one-of-both (codes_of run) (codes_in runs)))

-- ---- the two tables: the 25 of document 02 and the four of document 01
abbrev pub the_white_space : List ℕ
the_white_space = 0x9 ∷ 0xA ∷ 0xB ∷ 0xC ∷ 0xD ∷ 0x20 ∷ 0x85 ∷ 0xA0 ∷ 0x1680 ∷ 0x2000 ∷ 0x2001 ∷ 0x2002 ∷ 0x2003 ∷ 0x2004 ∷ 0x2005 ∷ 0x2006 ∷ 0x2007 ∷ 0x2008 ∷ 0x2009 ∷ 0x200A ∷ 0x2028 ∷ 0x2029 ∷ 0x202F ∷ 0x205F ∷ 0x3000 ∷ []

abbrev pub the_four : List ℕ
the_four = 0x9 ∷ 0xA ∷ 0xD ∷ 0x20 ∷ []

pub all-white-space : (codes_in white_space ≡ the_white_space) × (length the_white_space ≡ 25)
unfolding codes_in codes_from white_space
all-white-space = (refl, refl)

pub all-blanks : codes_in blanks ≡ the_four
unfolding codes_in codes_from blanks
all-blanks = refl

module _ (c : ℕ) where
  pub white-in-string : is_white String c ≡ is_one_of the_white_space c
  unfolding is_white spaces_of
  white-in-string = in-runs c white_space ∙ ap (λ codes. is_one_of codes c) all-white-space.0

  pub white-in-id : is_white StringID c ≡ is_one_of the_four c
  unfolding is_white spaces_of
  white-in-id = in-runs c blanks ∙ ap (λ codes. is_one_of codes c) all-blanks

  pub white-in-text : is_white Text c ≡ false
  unfolding is_white spaces_of in_runs
  white-in-text = refl

-- ---- from U+0021 to U+007E no character breaks a rule
module _ (lo hi c : ℕ) where
  before : c < lo → within lo hi c ≡ false
  unfolding within
  before h = rw (lt-leb lo c h)

  behind : hi < c → within lo hi c ≡ false
  unfolding within
  behind h = go (leb lo c) (lt-leb c hi h)
    where
      go : (t : Bool) → leb c hi ≡ false → (t && leb c hi) ≡ false
      go true e = e
      go false e = refl

-- a run that ends before lo or begins behind hi holds no code from lo to hi
abbrev apart : ℕ → ℕ → List ℕ → Bool
apart lo hi run = ltb (get_or run 1 0) lo || ltb hi (get_or run 0 0)

clear_of : ℕ → ℕ → List (List ℕ) → Bool
clear_of lo hi [] = true
clear_of lo hi (run ∷ runs) = apart lo hi run && clear_of lo hi runs

module _ (lo hi c : ℕ) (l : lo ≤ c) (h : c ≤ hi) where
  run-clear : (first last : ℕ) (t : Bool) → ltb last lo ≡ t → (t || ltb hi first) ≡ true → within first last c ≡ false
  run-clear first last true e q = behind first last c (omega (arith, ltb-true last lo e))
  run-clear first last false e q = before first last c (omega (arith, ltb-true hi first q))

  clear : (runs : List (List ℕ)) → clear_of lo hi runs ≡ true → in_runs runs c ≡ false
  unfolding in_runs clear_of
  clear [] e = refl
  clear (run ∷ runs) e =
      rw (run-clear (get_or run 0 0) (get_or run 1 0) _ refl (both_left (apart lo hi run) (clear_of lo hi runs) e))
      (clear runs (both_right (apart lo hi run) (clear_of lo hi runs) e))

module _ (c : ℕ) (t : Bool) (told : t ≡ within 0x21 0x7E c) (yes : t ≡ true) where
  abbrev from : 0x21 ≤ c
  from = within-from 0x21 0x7E c (sym told ∙ yes)

  abbrev to : c ≤ 0x7E
  to = within-to 0x21 0x7E c (sym told ∙ yes)

  not-barred : barred c ≡ false
  unfolding barred
  not-barred = rw (behind 0 8 c (omega (arith, from)), behind 0xB 0xC c (omega (arith, from)), behind 0xE 0x1F c (omega (arith, from))) (ne_eqb c 0x7F (λ e. omega (arith, to, e)))

  not_white : (ty : TextType) → is_white ty c ≡ false
  unfolding is_white spaces_of in_runs clear_of white_space blanks
  not_white Text = refl
  not_white String = clear 0x21 0x7E c from to white_space refl
  not_white StringID = clear 0x21 0x7E c from to blanks refl

  not-outside : (ty : TextType) → outside_id ty c ≡ false
  unfolding outside_id within
  not-outside Text = refl
  not-outside String = refl
  not-outside StringID = rw (le-leb 0x20 c (omega (arith, from)), le-leb c 0x7E to)

  pub graphic-right : (ty : TextType) (edge : Bool) → rule_broken ty c edge ≡ 0
  unfolding rule_broken wrong_space
  graphic-right ty edge = rw (not-barred, not_white ty, not-outside ty, before 0xD800 0xDFFF c (omega (arith, to)))

-- nor does a space that stands at no edge
pub space-right : (ty : TextType) → rule_broken ty 32 false ≡ 0
unfolding barred white_space blanks spaces_of in_runs is_white wrong_space outside_id rule_broken within
space-right Text = refl
space-right String = refl
space-right StringID = refl
