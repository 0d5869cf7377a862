-- A field's name that is guessed: what decides whether a word stands between quotes, that it is then the text there, and that
-- the field whose own name stands there is the one that is read.
-- Assumes nothing.
use Prim.Native.Nat.{ℕ, zero, suc, ◌+◌, ◌-◌, ◌*◌, ◌≤◌, ◌<◌}
use mathlib.Core.Path.{◌≡◌, refl, sym, ap, ◌∙◌}
use mathlib.Core.Bool.{Bool, true, false, cond, ◌&&◌}
use mathlib.Core.List.{List, [], ◌∷◌}
use native.Mathlib.Nat.{not-suc-le-zero}
use native.Mathlib.Numerals.{add-one}
use native.Mathlib.Omega.{arith}
use borrow.Author.Tests.{eq-eqb, ne_eqb, lt-ltb, ltb-true, leb-true, eqb-true, eqb-false}
use lib.ListN.{length, get_or, take, drop}
use lib.Seq.{get_or-drop}
use lib.Dec.{ltb, leb, eqb, lit<}
use Rattle.json_bytes.specs.Reads.{byte_at, leading}
use Rattle.json_bytes.proofs.Laws.{either, inside, both_left, both_right}
use Rattle.json_chars.specs.Chars.{chars_at}
use Rattle.json_text.specs.Run.{is_graphic, run_end, plain_end}
use Rattle.json_text.proofs.Plain.{plain_closed, plain-chars}
use Rattle.json_same.specs.Same.{same_list}
use Rattle.json_same.proofs.Laws.{same-equal}
use Rattle.parts.specs.Part.{part_of}
use Rattle.parts.proofs.Laws.{part-is}
use Rattle.table_rows.specs.Rows.{cell_at, name_start, name_end, field_name_at, fields_from}
use Rattle.table_name.specs.Name.{index_of, named, unnamed, name_at}
use Rattle.table_name.specs.Guess.{graphic_word, own_name, own_below, names_apart, quoted_end, guess_end}
use Rattle.table_name.proofs.Words.{taken-long, name-plain}

-- ---- a word of bytes that stand for themselves
module _ (word : List ℕ) where
  module _ (e : graphic_word word ≡ true) where
    pub graphic-some : 0 < length word
    unfolding graphic_word
    graphic-some = ltb-true 0 (length word) (both_left (ltb 0 (length word)) (eqb (leading is_graphic word) (length word)) e)

    graphic-whole : leading is_graphic word ≡ length word
    unfolding graphic_word
    graphic-whole = eqb-true (leading is_graphic word) (length word) (both_right (ltb 0 (length word)) (eqb (leading is_graphic word) (length word)) e)

-- ---- field k's own name
module _ (rows names : List ℕ) (count k : ℕ) where
  module _ (word : List ℕ) (from to : ℕ) (is_from : from ≡ name_start rows k) (is_to : to ≡ name_end rows k) (is_word : word ≡ part_of names from to) where
    word_of : word ≡ field_name_at rows names k
    unfolding field_name_at
    word_of = is_word ∙ rw (is_from, is_to)

    pub guess-told : (s : List ℕ) (at end : ℕ) → end ≡ quoted_end word s at → end ≡ guess_end rows names s at k
    unfolding guess_end
    guess-told s at end is = is ∙ ap (λ w. quoted_end w s at) word_of

below-own : (rows names : List ℕ) (count k n : ℕ) → own_below rows names count n ≡ true → k < n → own_name rows names count k ≡ true
unfolding own_below
below-own rows names count k zero e l = absurd (not-suc-le-zero l)
below-own rows names count k (suc n) e l =
    nearer (eqb k n) refl (below-own rows names count k n (both_right (own_name rows names count n) (own_below rows names count n) e))
  where
    nearer : (t : Bool) → eqb k n ≡ t → (k < n → own_name rows names count k ≡ true) → own_name rows names count k ≡ true
    nearer true q more = rw (eqb-true k n q) (both_left (own_name rows names count n) (own_below rows names count n) e)
    nearer false q more =
        let apart : k ≡ n → ⊥ = eqb-false k n q in
        more (omega (arith, apart))

pub apart-own : (rows names : List ℕ) (count k : ℕ) → names_apart rows names count ≡ true → k < count → own_name rows names count k ≡ true
unfolding names_apart
apart-own rows names count k = below-own rows names count k count

-- one more field that has a name of its own, and one that has none
module _ (rows names : List ℕ) (count k : ℕ) where
  pub own_more : own_below rows names count k ≡ true → own_name rows names count k ≡ true → own_below rows names count (k + 1) ≡ true
  unfolding own_below
  own_more e o = rw (add-one k, own_below, o) e

  pub own_fails : k < count → own_name rows names count k ≡ false → own_below rows names count count ≡ false
  own_fails l o = go (own_below rows names count count) refl
    where
      go : (t : Bool) → own_below rows names count count ≡ t → t ≡ false
      go true e = sym (below-own rows names count k count e l) ∙ o
      go false e = refl

pub own_none : (rows names : List ℕ) (count : ℕ) → own_below rows names count 0 ≡ true
unfolding own_below
own_none rows names count = refl

pub ruleset apart = (own_none, own_more, own_fails)

-- ---- where a name stands
-- a part that has a byte is no turned or past one
part-some : (s : List ℕ) (from to : ℕ) → 0 < length (part_of s from to) → (from < to) × (to ≤ length s)
unfolding part_of
part-some s from to h = go (leb from to) (leb to (length s)) refl refl h
  where
    go : (t u : Bool) → leb from to ≡ t → leb to (length s) ≡ u → 0 < length (cond (t && u) (take (to - from) (drop from s)) []) → (from < to) × (to ≤ length s)
    go true true p q h =
        let m : to ≤ length s = leb-true to (length s) q in
        (omega (arith, taken-long s from to (leb-true from to p) m, h), m)
    go true false p q h = absurd (not-suc-le-zero h)
    go false u p q h = absurd (not-suc-le-zero h)

-- a field that has a name has a whole row, and the name stands among the names
module _ (rows names : List ℕ) (k : ℕ) where
  pub record Placed : Type 0 where
    pub row : k * 5 + 4 < length rows
    pub forward : get_or rows (k * 5 + 3) 0 ≤ get_or rows (k * 5 + 4) 0
    pub among : get_or rows (k * 5 + 4) 0 ≤ length names

  pub placed : 0 < length (field_name_at rows names k) → Placed
  unfolding field_name_at cell_at
  placed h =
      let p = part-some names (get_or rows (k * 5 + 3) 0) (get_or rows (k * 5 + 4) 0) h in
      record { row = inside rows (k * 5 + 4) (get_or rows (k * 5 + 4) 0) refl (omega (arith, p.0)); forward = omega (arith, p.0); among = p.1 }

  pub own-some : (count : ℕ) → own_name rows names count k ≡ true → 0 < length (field_name_at rows names k)
  unfolding own_name
  own-some count own =
      let word = field_name_at rows names k in
      graphic-some word (both_left (graphic_word word) (eqb (index_of word (fields_from rows names count 0)) k) own)

-- ---- what decides whether a word stands between quotes
module _ (word s : List ℕ) (at : ℕ) where
  pub quoted-unopened : (byte_at s at ≡ 34 → ⊥) → quoted_end word s at ≡ 0
  unfolding quoted_end
  quoted-unopened n = rw (ne_eqb (byte_at s at) 34 n)

  pub quoted-goes-on : (byte_at s (at + 1 + length word) ≡ 34 → ⊥) → quoted_end word s at ≡ 0
  unfolding quoted_end
  quoted-goes-on n = rw (ne_eqb (byte_at s (at + 1 + length word)) 34 n) (either (λ x. x ≡ 0) (eqb (byte_at s at) 34) 0 0 refl refl)

  pub quoted-past : length s ≤ at + 1 + length word → quoted_end word s at ≡ 0
  quoted-past l = quoted-goes-on (λ e. omega (arith, e, inside s (at + 1 + length word) 34 e (lit< tt)))

  -- the bytes there are the word
  module _ (opens : byte_at s at ≡ 34) (close : byte_at s (at + 1 + length word) ≡ 34) where
    bytes : take (at + 1 + length word - (at + 1)) (drop (at + 1) s) ≡ part_of s (at + 1) (at + 1 + length word)
    bytes = sym (part-is s (at + 1) (at + 1 + length word) (omega arith) (omega (arith, inside s (at + 1 + length word) 34 close (lit< tt))))

    pub quoted_same : same_list (take (at + 1 + length word - (at + 1)) (drop (at + 1) s)) word ≡ true → quoted_end word s at ≡ at + 1 + length word + 1
    unfolding quoted_end
    quoted_same e = rw (eq-eqb (byte_at s at) 34 opens, eq-eqb (byte_at s (at + 1 + length word)) 34 close, ← bytes, e) (omega arith)

    pub quoted_other : same_list (take (at + 1 + length word - (at + 1)) (drop (at + 1) s)) word ≡ false → quoted_end word s at ≡ 0
    unfolding quoted_end
    quoted_other e = rw (eq-eqb (byte_at s at) 34 opens, eq-eqb (byte_at s (at + 1 + length word)) 34 close, ← bytes, e)

  -- ---- what it says
  record Quoted : Type 0 where
    pub opens : byte_at s at ≡ 34
    pub close : byte_at s (at + 1 + length word) ≡ 34
    pub same : part_of s (at + 1) (at + 1 + length word) ≡ word
    pub end : quoted_end word s at ≡ at + length word + 2

  quoted : 0 < quoted_end word s at → Quoted
  unfolding quoted_end
  quoted h = go (eqb (byte_at s at) 34) (eqb (byte_at s (at + 1 + length word)) 34) (same_list (part_of s (at + 1) (at + 1 + length word)) word) refl refl refl h
    where
      go : (t u v : Bool) → eqb (byte_at s at) 34 ≡ t → eqb (byte_at s (at + 1 + length word)) 34 ≡ u → same_list (part_of s (at + 1) (at + 1 + length word)) word ≡ v → 0 < cond t (cond u (cond v (at + length word + 2) 0) 0) 0 → Quoted
      go true true true p q r h =
          record {
            opens = eqb-true (byte_at s at) 34 p;
            close = eqb-true (byte_at s (at + 1 + length word)) 34 q;
            same = same-equal (part_of s (at + 1) (at + 1 + length word)) word r;
            end = rw (p, q, r);
          }
      go true true false p q r h = absurd (not-suc-le-zero h)
      go true false v p q r h = absurd (not-suc-le-zero h)
      go false u v p q r h = absurd (not-suc-le-zero h)

pub ruleset quoting = (quoted-unopened, quoted-goes-on, quoted-past, quoted_same, quoted_other)

-- ---- the run of bytes behind the opening quote ends with the word
run-quoted : (w l : List ℕ) → leading is_graphic w ≡ length w → take (length w) l ≡ w → byte_at l (length w) ≡ 34 → leading is_graphic l ≡ length w
unfolding leading is_graphic
run-quoted [] [] g t q = refl
run-quoted [] (x ∷ xs) g t q = rw (eq-eqb x 34 q, leading)
run-quoted (b ∷ bs) [] g t q = cc
run-quoted (b ∷ bs) (x ∷ xs) g t q = go (is_graphic b) refl g (λ h. run-quoted bs xs h others q)
  where
    first : x ≡ b
    first = cc

    others : take (length bs) xs ≡ bs
    others = cc

    go : (u : Bool) → is_graphic b ≡ u → (elim u [ true ↦ suc (leading is_graphic bs) | false ↦ 0 ]) ≡ suc (length bs) → (leading is_graphic bs ≡ length bs → leading is_graphic xs ≡ length bs) → leading is_graphic (x ∷ xs) ≡ suc (length bs)
    go true e h rest = rw (first, e, leading) (ap suc (rest (omega (arith, h))))
    go false e h rest = absurd (omega (arith, h))

-- ---- a word of bytes that stand for themselves, between quotes
module _ (word s : List ℕ) (at : ℕ) (graphic : graphic_word word ≡ true) (h : 0 < quoted_end word s at) where
  there : take (at + 1 + length word - (at + 1)) (drop (at + 1) s) ≡ word
  there =
      let q = quoted word s at h in
      let in-file : at + 1 + length word < length s = inside s (at + 1 + length word) 34 q.close (lit< tt) in
      sym (part-is s (at + 1) (at + 1 + length word) (omega arith) (omega (arith, in-file))) ∙ q.same

  quoted-plain : plain_end s at ≡ at + 1 + length word
  unfolding run_end
  quoted-plain =
      let q = quoted word s at h in
      let size : at + 1 + length word - (at + 1) ≡ length word = omega arith in
      let run : leading is_graphic (drop (at + 1) s) ≡ length word = run-quoted word (drop (at + 1) s) (graphic-whole word graphic) (rw size at there) (get_or-drop (at + 1) s (length word) 0 ∙ q.close) in
      plain_closed s at (at + 1 + length word) q.opens (ap (λ n. at + 1 + n) (sym run)) (omega (arith, graphic-some word graphic)) q.close

  -- it is the text there
  pub quoted-chars : chars_at s at ≡ word
  quoted-chars = plain-chars s at (at + 1 + length word) (sym quoted-plain) (omega arith) ∙ there

module _ (rows names s : List ℕ) (count at k : ℕ) where
  pub guess-right : k < count → own_name rows names count k ≡ true → 0 < guess_end rows names s at k → name_at (fields_from rows names count 0) s at ≡ named k (guess_end rows names s at k)
  unfolding own_name guess_end
  guess-right l own h =
      let word = field_name_at rows names k in
      let graphic : graphic_word word ≡ true = both_left (graphic_word word) (eqb (index_of word (fields_from rows names count 0)) k) own in
      let index : index_of word (fields_from rows names count 0) ≡ k = eqb-true (index_of word (fields_from rows names count 0)) k (both_right (graphic_word word) (eqb (index_of word (fields_from rows names count 0)) k) own) in
      let q = quoted word s at h in
      let j = at + 1 + length word in
      let known : named k (j + 1) ≡ cond (ltb k count) (named k (j + 1)) (unnamed 13 at) = rw (lt-ltb k count l) in
      sym (name-plain s at rows names count k (j + 1) (named k (j + 1)) known j (sym (quoted-plain word s at graphic h)) (omega arith) refl word (sym q.same) (sym index)) ∙ ap (named k) (omega (arith, q.end))
