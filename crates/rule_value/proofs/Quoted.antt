-- A value that stands between quotes as an enumeration lists it: where the listed ones are plain, it is that value.
-- Assumes nothing.
use Prim.Native.Nat.{ℕ, ◌+◌, ◌<◌}
use mathlib.Core.Path.{◌≡◌, sym, ap, ◌∙◌}
use mathlib.Core.Bool.{true}
use mathlib.Core.List.{List}
use borrow.Author.Count.{below_more}
use Rattle.json_same.specs.declared.Case.TheVariants.{Folded}
use Rattle.json_same.proofs.Laws.{same_refl}
use Rattle.parts.specs.Part.{part_of}
use Rattle.table_rows.specs.Rows.{value_name_start, value_end, value_text_at}
use Rattle.table_name.specs.Guess.{graphic_word, quoted_end}
use Rattle.table_name.proofs.Guess.{quoted-chars}
use Rattle.rule_cells.specs.Cells.{table, start_of, text_of, is_word}
use Rattle.rule_when.specs.When.{is_value}
use Rattle.rule_value.specs.Plain.{PlainValues}
use Rattle.rule_value.specs.Value.{is_one_of}
use Rattle.rule_value.proofs.Laws.{one_found}

module _ (places texts word : List ℕ) where
  -- the part of the texts that a value's places name
  pub value-word : (v from to : ℕ) → from ≡ value_name_start places v → to ≡ value_end places v → word ≡ part_of texts from to → word ≡ value_text_at places texts v
  unfolding value_text_at
  value-word v from to is_from is_to is_word = is_word ∙ rw (is_from, is_to)

  pub plain_more : (v i : ℕ) → PlainValues places texts v i → word ≡ value_text_at places texts (v + i) → graphic_word word ≡ true → PlainValues places texts v (i + 1)
  plain_more v i all is g = below_more (λ j. graphic_word (value_text_at places texts (v + j)) ≡ true) i all (ap graphic_word (sym is) ∙ g)

module _ (s cells : List ℕ) (width r k at : ℕ) (places texts : List ℕ) (first count i : ℕ) where
  pub quoted-one : at ≡ start_of cells width r k → PlainValues places texts first count → i < count → 0 < quoted_end (value_text_at places texts (first + i)) s at → is_one_of (table s cells width 0) r k places texts count first ≡ true
  unfolding is_value is_word text_of
  quoted-one is_at plain l h =
      let word = value_text_at places texts (first + i) in
      one_found (table s cells width 0) r k places texts i count first l (rw (← is_at, quoted-chars word s at (plain i l) h) (same_refl Folded word))

pub ruleset quoting = (value-word, plain_more, quoted-one, one_found)
