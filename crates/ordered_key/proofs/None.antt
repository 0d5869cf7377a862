-- A search that answers whether no record breaks: one turn of it. And a table in which no two records have one key breaks
-- no rule.
-- Assumes nothing.
use Prim.Native.Nat.{ℕ, ◌+◌, ◌-◌, ◌≤◌, ◌<◌}
use mathlib.Core.Path.{◌≡◌, refl, sym, ap, ◌∙◌}
use mathlib.Core.Bool.{Bool, true, false}
use native.Mathlib.Omega.{arith}
use borrow.Author.Tests.{eqb-true, ne_eqb}
use lib.Dec.{eqb}
use Rattle.rule_cells.specs.Cells.{Table, first_from, first_that}
use Rattle.rule_cells.proofs.First.{from-none}
use Rattle.rule_cells.proofs.Laws.{search-hits, search-goes-on, search-ends}
use Rattle.rule_key.specs.declared.Key.{Key}
use Rattle.rule_key.specs.Key.{earliest, key_rule}
use Rattle.rule_key.proofs.Compare.{rule-is}
use Rattle.rule_key.proofs.Laws.{Distinct, distinct-holds}

-- ---- what is left of the search at record i answers as the whole search does
abbrev pub NoneLeft : Bool → (ℕ → Bool) → ℕ → ℕ → Type 0
NoneLeft whole breaks n i = whole ≡ eqb (first_from breaks (n - i) i) 0

module _ (whole : Bool) (breaks : ℕ → Bool) (n i : ℕ) (w : NoneLeft whole breaks n i) where
  pub none-goes-on : i < n → breaks i ≡ false → NoneLeft whole breaks n (i + 1)
  none-goes-on l e = w ∙ ap (λ (x : ℕ). eqb x 0) (search-goes-on breaks n i l e)

  pub one-hits : i < n → breaks i ≡ true → false ≡ whole
  one-hits l e =
      sym (w ∙ ap (λ (x : ℕ). eqb x 0) (search-hits breaks n i l e) ∙ ne_eqb (i + 1) 0 (λ z. omega arith))

  pub none-ends : n ≤ i → true ≡ whole
  none-ends l = sym (w ∙ ap (λ (x : ℕ). eqb x 0) (search-ends breaks n i l))

-- where it answers so, none of those left breaks
pub left-none : (breaks : ℕ → Bool) (n i j : ℕ) → NoneLeft true breaks n i → i ≤ j → j < n → breaks j ≡ false
left-none breaks n i j w l u = from-none breaks (n - i) i (eqb-true _ _ (sym w)) j l (omega arith)

-- ---- no two records of one key
pub distinct-gives-rule : (t : Table) (key : Key) → Distinct t key → key_rule t key ≡ record { «record» = 0; same = 0 }
unfolding key_rule earliest first_that first_from
distinct-gives-rule t key d = rule-is t key 0 0 (distinct-holds t key d) refl
