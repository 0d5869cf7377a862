-- Which kinds a name and what stands around the values can give: those of a string, 13 for a name that is no field's, and 11.
-- Assumes nothing.
use Rattle.std.specs.Prelude.{Ok, Err}
use Prim.Native.Nat.{ℕ}
use mathlib.Core.Path.{◌≡◌, refl}
use mathlib.Core.List.{List, [], ◌∷◌, map}
use lib.ListN.{length}
use lib.Dec.{ltb, eqb}
use Rattle.json_bytes.specs.Reads.{byte_at, spaces_end, fault_at}
use Rattle.json_bytes.proofs.Laws.{either}
use Rattle.json_bytes.proofs.FaultKinds.{In, wider, Faults, of-reading}
use Rattle.json_chars.specs.Chars.{chars_at}
use Rattle.json_text.specs.Text.{text_read_at}
use Rattle.json_text.proofs.FaultKinds.{text_kinds, text-kinds}
use Rattle.table_rows.specs.Rows.{Field}
use Rattle.table_name.specs.Name.{index_of, NameRead, named_at, name_at, colon_at}
use Rattle.table_name.proofs.Opens.{open-names}

-- ---- a name
abbrev pub name_kinds : List ℕ
name_kinds = 13 ∷ text_kinds

abbrev pub NameFaults : List ℕ → NameRead → Type 0
NameFaults ks (Ok n) = Unit {0}
NameFaults ks (Err e) = In ks e.kind

pub name-kinds : (fields : List Field) (s : List ℕ) (at : ℕ) → NameFaults name_kinds (name_at fields s at)
unfolding name_at named_at
name-kinds fields s at =
    of-reading (λ r. NameFaults name_kinds (elim r [ Ok end ↦ named_at fields s at end | Err e ↦ Err e ])) text_kinds
    (λ end. either (NameFaults name_kinds) (ltb (index_of (chars_at s at) fields) (length fields)) _ _ tt refl)
    (λ kind place h. wider text_kinds name_kinds refl kind h)
    (text_read_at s at) (text-kinds s at)

-- each is given: `""` is no field's name; the others as in a string
abbrev name_kind : NameRead → ℕ
name_kind (Ok n) = 0
name_kind (Err e) = e.kind

pub name-given : map (λ s. name_kind (name_at [] s 0)) ((34 ∷ 34 ∷ []) ∷ (34 ∷ []) ∷ (34 ∷ 0xFF ∷ []) ∷ (34 ∷ 1 ∷ []) ∷ []) ≡ name_kinds
unfolding open-names
name-given = refl

-- ---- the colon behind it
abbrev pub colon_kinds : List ℕ
colon_kinds = 11 ∷ []

pub colon-kinds : (s : List ℕ) (end : ℕ) → Faults colon_kinds (colon_at s end)
unfolding colon_at
colon-kinds s end = either (Faults colon_kinds) (eqb (byte_at s (spaces_end s end)) 58) _ _ tt refl

pub colon-given : map (λ s. colon_at s 0) ([] ∷ []) ≡ map (λ kind. fault_at kind 0) colon_kinds
unfolding open-names
colon-given = refl
