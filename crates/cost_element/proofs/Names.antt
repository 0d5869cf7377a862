-- The names of the elements among the enumeration values, and the fields by their names.
-- Assumes nothing.
use Prim.Native.Nat.{ℕ, ◌+◌, ◌<◌}
use mathlib.Core.Path.{◌≡◌, refl, ◌∙◌}
use mathlib.Core.List.{List, flatten}
use native.Mathlib.Omega.{arith}
use lib.ListN.{length}
use Rattle.parts.specs.Part.{part_of}
use Rattle.table_rows.specs.Rows.{value_name_start, value_end, value_text_at}
use Rattle.table_fields.specs.Enumerations.{values_of}
use Rattle.table_fields.specs.Flat.{value_places, value_texts, first_value}
use Rattle.table_fields.proofs.Facts.{value-back}
use Rattle.table_fields.proofs.Opens.{open-fields}
use Rattle.cost_element.specs.Element.{element_name}

first-name : first_value 9 ≡ 47
unfolding open-fields flatten
first-name = refl

four-names : length (values_of 9) ≡ 4
unfolding open-fields flatten
four-names = refl

-- a name, as it is cut out of the lent texts
pub name-is : (e : ℕ) → e < 4 → {places texts name : List ℕ} {from to : ℕ} → places ≡ value_places → texts ≡ value_texts → from ≡ value_name_start places (47 + e) → to ≡ value_end places (47 + e) → name ≡ part_of texts from to → name ≡ element_name e
unfolding element_name value_text_at
name-is e h p t f g n =
    n ∙ rw (f, g, p, t, ← first-name) (value-back 9 e (omega (arith, four-names)))
