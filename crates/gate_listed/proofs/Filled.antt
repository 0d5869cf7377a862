-- A list that is filled with entries from its start.
-- Assumes nothing.
use mathlib.Core.Path.{◌≡◌, refl, sym, ◌∙◌, ap}
use Prim.Native.Nat.{ℕ, zero, suc, ◌+◌, ◌*◌, ◌<◌, ◌≤◌}
use native.Mathlib.Omega.{arith}
use mathlib.Core.List.{List, [], ◌∷◌, ◌++◌}
use lib.ListN.{length, drop, set, get_or, length-append, length-drop}
use lib.Seq.{drop-cons, append_snoc, set-append_seam}
use Rattle.entries.specs.declared.Entry.{Entry}
use Rattle.entries.specs.Flat.{entry_in, entries_in}

module _ (flat : List ℕ) (from : ℕ) where
  pub entries-long : (n : ℕ) → length (entries_in flat from n) ≡ n
  unfolding entries_in
  entries-long zero = refl
  entries-long (suc n) =
      let e : length (entries_in flat from n ++ (entry_in flat (from + 4 * n) ∷ [])) ≡ length (entries_in flat from n) + 1 = length-append (entries_in flat from n) _ in
      omega (arith, e, entries-long n)

  module _ (xs : List Entry) where
    -- the first i places hold entries, and the rest is as before
    abbrev pub filled : ℕ → List Entry
    filled i = entries_in flat from i ++ drop i xs

    pub filled_none : filled 0 ≡ xs
    unfolding entries_in
    filled_none = refl

    pub filled-long : (i : ℕ) → i ≤ length xs → length (filled i) ≡ length xs
    filled-long i l = omega (arith, length-append (entries_in flat from i) (drop i xs), entries-long i, length-drop i xs)

    pub filled_next : (i : ℕ) → i < length xs → set (filled i) i (entry_in flat (from + 4 * i)) ≡ filled (suc i)
    unfolding entries_in
    filled_next i l =
        let e = entry_in flat (from + 4 * i) in
        ap (λ (r : List Entry). set (entries_in flat from i ++ r) i e) (drop-cons xs i e l)
        ∙ ap (λ (k : ℕ). set (entries_in flat from i ++ get_or xs i e ∷ drop (suc i) xs) k e) (sym (entries-long i))
        ∙ set-append_seam (entries_in flat from i) (get_or xs i e) (drop (suc i) xs) e
        ∙ sym (append_snoc (entries_in flat from i) e (drop (suc i) xs))
