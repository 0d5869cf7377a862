-- The fields of a table one behind the other, and the search for the one that a string names.
-- Assumes nothing.
use Rattle.std.specs.Prelude.{Ok, Err}
use Rattle.json_bytes.specs.declared.Fault.{Fault}
use Prim.Native.Nat.{ℕ, suc, ◌+◌, ◌-◌, ◌≤◌, ◌<◌}
use mathlib.Core.Path.{◌≡◌, refl, sym, ap, ◌∙◌}
use mathlib.Core.Bool.{true, false}
use mathlib.Core.List.{List, [], ◌∷◌}
use native.Mathlib.Nat.{add-zero}
use native.Mathlib.Numerals.{add-one}
use native.Mathlib.Omega.{arith}
use borrow.Author.Tests.{eq-eqb}
use Rattle.json_bytes.specs.Reads.{byte_at, is_space, spaces_end}
use Rattle.json_bytes.proofs.Laws.{inside, run-stops}
use Rattle.json_text.specs.Text.{text_read}
use Rattle.json_text.specs.declared.TextType.TheVariants.{Text}
use Rattle.json_same.specs.Same.{same_as}
use Rattle.json_same.specs.declared.Case.TheVariants.{Kept}
use Rattle.table_rows.specs.Rows.{listed, Field, name_start, name_end, field_name_at as name_text, field_at, fields_from}
use Rattle.parts.specs.Part.{part_of}
use Rattle.table_name.specs.Name.{index_of, name_at, colon_at, next_after}
use Rattle.table_name.specs.declared.Next.TheVariants.{More}

module _ (rows names : List ℕ) (count k : ℕ) where
  -- the fields from number k on: field k, and those behind it
  pub fields-next : k < count → fields_from rows names (count - k) k ≡ field_at rows names k ∷ fields_from rows names (count - (k + 1)) (k + 1)
  unfolding fields_from listed
  fields-next l =
      let e : count - k ≡ suc (count - (k + 1)) = omega arith in
      rw (e, add-one k)

  pub fields-end : count ≤ k → fields_from rows names (count - k) k ≡ []
  unfolding fields_from listed
  fields-end l =
      let e : count - k ≡ 0 = omega arith in
      rw e

  module _ (cs : List ℕ) where
    pub index-more : k < count → same_as Kept cs (name_text rows names k) ≡ false → k + index_of cs (fields_from rows names (count - k) k) ≡ (k + 1) + index_of cs (fields_from rows names (count - (k + 1)) (k + 1))
    unfolding index_of field_at
    index-more l e = rw (fields-next l, e, index_of) (omega arith)

    pub index-found : k < count → same_as Kept cs (name_text rows names k) ≡ true → k + index_of cs (fields_from rows names (count - k) k) ≡ k
    unfolding index_of field_at
    index-found l e = rw (fields-next l, e, index_of) (add-zero k)

    pub index-none : count ≤ k → k + index_of cs (fields_from rows names (count - k) k) ≡ k
    unfolding index_of
    index-none l = rw (fields-end l) (add-zero k)

-- the part of the names that field k's row points at is its name
pub name_there : (rows names : List ℕ) (k : ℕ) → part_of names (name_start rows k) (name_end rows k) ≡ name_text rows names k
unfolding name_text
name_there rows names k = refl

-- what the search along the fields needs
pub ruleset searching = (index-more, index-found, index-none, name_there)

-- ---- a name that is no text
pub name_bad : (s : List ℕ) (at : ℕ) (fields : List Field) (e : Fault) → (text_read Text s at).reading ≡ Err e → name_at fields s at ≡ Err e
unfolding name_at text_read
name_bad s at fields e h = rw (h, name_at)

-- ---- a colon or a comma that no space stands before
module _ (s : List ℕ) (end b : ℕ) (is : b ≡ byte_at s end) where
  no-space : 0 < b → is_space b ≡ false → spaces_end s end ≡ end
  unfolding spaces_end
  no-space h e = run-stops is_space s end (inside s end b (sym is) h) (ap is_space (sym is) ∙ e)

  pub colon_here : b ≡ 58 → colon_at s end ≡ Ok (spaces_end s (end + 1))
  unfolding colon_at is_space
  colon_here e = rw (no-space (omega (arith, e)) (ap is_space e), ← is, eq-eqb b 58 e)

  pub comma_here : b ≡ 44 → (closing : ℕ) → next_after s end closing ≡ More (spaces_end s (end + 1))
  unfolding next_after is_space
  comma_here e closing = rw (no-space (omega (arith, e)) (ap is_space e), ← is, eq-eqb b 44 e)
