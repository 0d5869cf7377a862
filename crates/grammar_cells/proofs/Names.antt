-- A member that names field k has the name of field k, letter by letter.
-- Assumes nothing.
use Prim.Native.Nat.{ℕ, suc, ◌<◌}
use mathlib.Core.Path.{◌≡◌, refl, sym, ap, ◌∙◌}
use mathlib.Core.Bool.{Bool, true, false}
use mathlib.Core.List.{List, [], ◌∷◌, map}
use native.Mathlib.Omega.{arith}
use lib.ListN.{length, get_or}
use Rattle.json_same.specs.Same.{cased_as, same_as}
use Rattle.json_same.specs.declared.Case.TheVariants.{Kept}
use Rattle.json_same.proofs.Laws.{same-cased}
use Rattle.table_rows.specs.Rows.{Field}
use Rattle.table_name.specs.Name.{index_of}

kept-all : (cs : List ℕ) → map (cased_as Kept) cs ≡ cs
unfolding cased_as
kept-all [] = refl
kept-all (c ∷ cs) = ap (λ (ds : List ℕ). c ∷ ds) (kept-all cs)

pub index-names : (cs : List ℕ) (fields : List Field) → index_of cs fields < length fields → get_or (map (λ (f : Field). f.name) fields) (index_of cs fields) [] ≡ cs
unfolding index_of
index-names cs [] l = absurd (omega arith)
index-names cs (f ∷ fs) l = go (index-names cs fs) (same_as Kept cs f.name) refl l
  where
    go : (index_of cs fs < length fs → get_or (map (λ (f : Field). f.name) fs) (index_of cs fs) [] ≡ cs) → (t : Bool) → same_as Kept cs f.name ≡ t → (elim t [ true ↦ 0 | false ↦ suc (index_of cs fs) ]) < suc (length fs) → get_or (map (λ (f : Field). f.name) (f ∷ fs)) (elim t [ true ↦ 0 | false ↦ suc (index_of cs fs) ]) [] ≡ cs
    go rest true e m = sym (sym (kept-all cs) ∙ same-cased Kept cs f.name e ∙ kept-all f.name)
    go rest false e m = rest (omega arith)
