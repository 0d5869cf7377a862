-- Two lists of bytes side by side, and a word among the names of a table.
-- Assumes nothing.
use Rattle.std.specs.Prelude.{Ok}
use Prim.Native.Nat.{ℕ, ◌+◌, ◌-◌, ◌*◌, ◌/◌, ◌≤◌, ◌<◌}
use mathlib.Core.Path.{◌≡◌, refl, sym, ap, ◌∙◌}
use mathlib.Core.Bool.{Bool, true, false, cond, ◌&&◌}
use mathlib.Core.List.{List, [], ◌∷◌, map}
use native.Mathlib.Numerals.{add-one}
use native.Mathlib.Omega.{arith}
use mir.Syntax.{w32, w64}
use mir.Val.{Fits}
use borrow.Author.Tests.{eq-eqb, ne_eqb, leb-true}
use lib.ListN.{length, get_or, take, drop, drop_of_length-le, length-drop, get_or-eq_default}
use lib.Seq.{drop-cons, length-take-le}
use lib.Dec.{ltb, leb}
use Rattle.json_bytes.proofs.Laws.{by-test, both_left, both_right}
use Rattle.json_chars.specs.Chars.{chars_at}
use Rattle.json_text.specs.Run.{plain_end}
use Rattle.json_text.specs.Text.{text_read_at, text_read}
use Rattle.json_text.specs.declared.TextRead.{TextRead}
use Rattle.json_text.specs.declared.TextType.TheVariants.{Text}
use Rattle.json_text.proofs.Plain.{plain-inside, plain-text, plain-chars}
use Rattle.json_same.specs.Same.{same_as, same_list, cased_as}
use Rattle.json_same.specs.declared.Case.TheVariants.{Kept}
use Rattle.json_same.proofs.Laws.{same-equal}
use Rattle.parts.specs.Part.{part_of}
use Rattle.parts.proofs.Laws.{part-is}
use Rattle.table_rows.specs.Rows.{cell_at, field_name_at, fields_from}
use Rattle.table_rows.proofs.Laws.{fields-length}
use Rattle.table_name.specs.Name.{index_of, NameRead, named, unnamed, named_at, name_at}

-- ---- two lists of bytes
module _ (a b : List ℕ) where
  pub same-longer : (length a ≡ length b → ⊥) → same_list a b ≡ false
  same-longer e = go (same_list a b) refl
    where
      go : (t : Bool) → same_list a b ≡ t → t ≡ false
      go true q = absurd (e (ap length (same-equal a b q)))
      go false q = refl

  module _ (i : ℕ) where
    pub same_more : i < length a → i < length b → get_or a i 0 ≡ get_or b i 0 → same_list (drop i a) (drop i b) ≡ same_list (drop (i + 1) a) (drop (i + 1) b)
    unfolding same_list
    same_more l m e = rw (drop-cons a i 0 l, drop-cons b i 0 m, eq-eqb (get_or a i 0) (get_or b i 0) e, add-one i)

    pub same_differs : i < length a → i < length b → (get_or a i 0 ≡ get_or b i 0 → ⊥) → same_list (drop i a) (drop i b) ≡ false
    unfolding same_list
    same_differs l m e = rw (drop-cons a i 0 l, drop-cons b i 0 m, ne_eqb (get_or a i 0) (get_or b i 0) e)

    pub same_ends : length a ≤ i → length b ≤ i → same_list (drop i a) (drop i b) ≡ true
    unfolding same_list
    same_ends l m = rw (drop_of_length-le a l, drop_of_length-le b m)

-- what comparing them byte by byte needs
pub ruleset comparing = (same-longer, same_more, same_differs, same_ends)

-- ---- with case kept, two strings are the same where their characters are
kept-all : (xs : List ℕ) → map (cased_as Kept) xs ≡ xs
unfolding cased_as
kept-all [] = refl
kept-all (x ∷ xs) = ap (λ l. x ∷ l) (kept-all xs)

same_kept : (xs ys : List ℕ) → same_as Kept xs ys ≡ same_list xs ys
unfolding same_as
same_kept xs ys = rw (kept-all xs, kept-all ys)

-- a part is as long as its places say
pub taken-long : (s : List ℕ) (from to : ℕ) → from ≤ to → to ≤ length s → length (take (to - from) (drop from s)) ≡ to - from
taken-long s from to l m = length-take-le (to - from) (drop from s) (rw (length-drop from s) (omega arith))

-- a number of a row is a place
pub place-fits : {x : ℕ} → Fits w32 x → Fits w64 x
place-fits f = record { fits = omega (arith, f.fits) }

-- a word and a part of the names: of another length than its places say, or compared
module _ (word names : List ℕ) (from to : ℕ) where
  word-apart : 0 < length word → (to - from ≡ length word → ⊥) → same_as Kept word (part_of names from to) ≡ false
  unfolding part_of
  word-apart h n =
      same_kept word (part_of names from to) ∙
      same-longer word (part_of names from to) (by-test (λ x. length word ≡ length x → ⊥) (leb from to && leb to (length names)) (take (to - from) (drop from names)) [] (λ t e. n (sym (e ∙ long t))) (λ _ e. omega (arith, e)))
    where
      long : (leb from to && leb to (length names)) ≡ true → length (take (to - from) (drop from names)) ≡ to - from
      long t =
          taken-long names from to
          (leb-true from to (both_left (leb from to) (leb to (length names)) t))
          (leb-true to (length names) (both_right (leb from to) (leb to (length names)) t))

  word-compared : (name : List ℕ) (t : Bool) → name ≡ part_of names from to → t ≡ same_list word name → t ≡ same_as Kept word (part_of names from to)
  word-compared name t is_name is_same = is_same ∙ ap (same_list word) is_name ∙ sym (same_kept word (part_of names from to))

-- a word and the name that row k points at
module _ (word rows names : List ℕ) (k : ℕ) where
  -- without such a row the name ends where the names begin
  pub row-none : 0 < length word → length rows / 5 ≤ k → false ≡ same_as Kept word (field_name_at rows names k)
  unfolding field_name_at cell_at
  row-none h l =
      let past : get_or rows (k * 5 + 4) 0 ≡ 0 = get_or-eq_default rows 0 (omega arith) in
      sym (word-apart word names (get_or rows (k * 5 + 3) 0) (get_or rows (k * 5 + 4) 0) h (λ e. omega (arith, past, e)))

  pub row_apart : 0 < length word → (get_or rows (k * 5 + 4) 0 ≡ get_or rows (k * 5 + 3) 0 + length word → ⊥) → false ≡ same_as Kept word (field_name_at rows names k)
  unfolding field_name_at cell_at
  row_apart h n = sym (word-apart word names (get_or rows (k * 5 + 3) 0) (get_or rows (k * 5 + 4) 0) h (λ e. n (omega (arith, e))))

  pub row-compared : (name : List ℕ) (t : Bool) → name ≡ part_of names (get_or rows (k * 5 + 3) 0) (get_or rows (k * 5 + 4) 0) → t ≡ same_list word name → t ≡ same_as Kept word (field_name_at rows names k)
  unfolding field_name_at cell_at
  row-compared = word-compared word names (get_or rows (k * 5 + 3) 0) (get_or rows (k * 5 + 4) 0)

pub ruleset row_named = (row-none, row_apart, row-compared, place-fits)

-- ---- a name that is written in plain bytes, and one that is read
-- a plain name has a byte
pub plain_word : (s : List ℕ) (at j : ℕ) → j ≡ plain_end s at → 0 < j → (word : List ℕ) → word ≡ part_of s (at + 1) j → 0 < length word
plain_word s at j is h word is_word =
    let around = plain-inside s at j is h in
    rw (is_word, part-is s (at + 1) j (omega (arith, around.0)) (omega (arith, around.1)), taken-long s (at + 1) j (omega (arith, around.0)) (omega (arith, around.1))) (omega (arith, around.0))

module _ (s : List ℕ) (at : ℕ) (rows names : List ℕ) (count index end : ℕ) (n : NameRead) (is_known : n ≡ cond (ltb index count) (named index end) (unnamed 13 at)) where
  is_named : text_read_at s at ≡ Ok end → index ≡ index_of (chars_at s at) (fields_from rows names count 0) → n ≡ name_at (fields_from rows names count 0) s at
  unfolding name_at named_at
  is_named whole is_index = rw (whole, name_at, ← is_index, fields-length rows names count 0) is_known

  pub name-decoded : text_read_at s at ≡ Ok end → (word : List ℕ) → word ≡ chars_at s at → index ≡ index_of word (fields_from rows names count 0) → n ≡ name_at (fields_from rows names count 0) s at
  name-decoded whole word chars is_index = is_named whole (is_index ∙ ap (λ cs. index_of cs (fields_from rows names count 0)) chars)

  pub name_read : (text_read Text s at).reading ≡ Ok end → index ≡ index_of (chars_at s at) (fields_from rows names count 0) → n ≡ name_at (fields_from rows names count 0) s at
  unfolding text_read
  name_read whole is_index = is_named whole is_index

  pub name-plain : (j : ℕ) → j ≡ plain_end s at → 0 < j → end ≡ j + 1 → (word : List ℕ) → word ≡ part_of s (at + 1) j → index ≡ index_of word (fields_from rows names count 0) → n ≡ name_at (fields_from rows names count 0) s at
  unfolding text_read
  name-plain j is h is_end word is_word is_index =
      let around = plain-inside s at j is h in
      let chars : word ≡ chars_at s at = is_word ∙ part-is s (at + 1) j (omega (arith, around.0)) (omega (arith, around.1)) ∙ sym (plain-chars s at j is h) in
      name-decoded (ap (λ (x : TextRead). x.reading) (plain-text s at j is h) ∙ ap Ok (sym is_end)) word chars is_index
