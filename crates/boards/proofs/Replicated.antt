-- Lists that hold one number at each place, as an array is made and as fresh marks are said.
-- Assumes nothing.
use Prim.Native.Nat.{ℕ, zero, suc}
use mathlib.Core.Path.{◌≡◌, refl, ap, ◌∙◌}
use mathlib.Core.List.{[], ◌∷◌, ◌++◌}
use native.Mathlib.Numerals.{unary_clauses}
use lib.ListN.{replicate}
use Rattle.std.proofs.lemmas.Grind.{replicate_next}
use Rattle.mark_numbers.specs.Marks.{list_of}

pub same-at-each : (n x : ℕ) → replicate n x ≡ list_of (λ (m : ℕ). x) n
unfolding list_of
same-at-each zero x = refl
same-at-each (suc n) x = simp unary_clauses at (replicate_next n x) ∙ ap (λ xs. xs ++ x ∷ []) (same-at-each n x)
