-- The lines of a drawer's text put into an output one behind the other.
-- Assumes nothing.
use Prim.Native.Nat.{ℕ, zero, suc, ◌+◌, ◌-◌}
use mathlib.Core.Path.{◌≡◌, refl, sym, ap, ◌∙◌}
use mathlib.Core.Bool.{Bool, true, false}
use mathlib.Core.List.{List, [], ◌∷◌, ◌++◌, append_assoc}
use borrow.Author.Tests.{eq-eqb, ne_eqb}
use lib.ListN.{length}
use Rattle.json_bytes.specs.Ascii.{codes}
use Rattle.bundle_bytes.specs.Pieces.{joined}
use Rattle.bundle_bytes.proofs.Laws.{joined-next}
use Rattle.bundle_layout.specs.Bundle.{header_size, offset_at, length_at, is_omitted}
use Rattle.drawer_layout.specs.Places.{all_lengths, stand_apart}
use Rattle.drawer_layout.proofs.Laws.{laid_so}
use Rattle.drawer_held.specs.Drawer.{offsets_of, lengths_of, drawer_fault}
use Rattle.drawer_held.proofs.Laws.{drawer-laid}
use Rattle.file_names.specs.Names.{file_name}
use Rattle.output.specs.Output.{Output, put, ended}
use Rattle.output.proofs.Puts.{put_then}
use Rattle.report.specs.Report.{counted, refusal_text}
use Rattle.drawer_text.specs.List.{held_line, gap_line, gap_lines, free_bytes, free_line, drawer_text, list_text, change_text}

-- ---- a file's line, and those of all
module _ (o : Output) (d : List ℕ) (k : ℕ) {t : Bool} (is : t ≡ is_omitted d k) where
  pub held_none : t ≡ true → o ≡ put o (held_line d k)
  unfolding held_line put
  held_none e = rw (sym is ∙ e)

  held-parts : {a b : ℕ} → a ≡ offset_at d k → b ≡ length_at d k → t ≡ false → ended k 32 ++ file_name k ++ (32 ∷ []) ++ ended a 32 ++ ended b 10 ≡ held_line d k
  unfolding held_line codes
  held-parts a b e = rw (sym is ∙ e, a, b) (simp append_assoc)

  pub held-put : {a b : ℕ} → a ≡ offset_at d k → b ≡ length_at d k → t ≡ false → {p q r s u : Output} → p ≡ put o (ended k 32) → q ≡ put p (file_name k) → r ≡ put q (32 ∷ []) → s ≡ put r (ended a 32) → u ≡ put s (ended b 10) → u ≡ put o (held_line d k)
  held-put a b e e₀ e₁ e₂ e₃ e₄ =
      rw (← held-parts a b e)
      (put_then o _ _ (put_then o _ _ (put_then o _ _ (put_then o (ended k 32) (file_name k) e₀ e₁) e₂) e₃) e₄)

module _ (o : Output) (d : List ℕ) where
  pub held_start : o ≡ put o (joined (held_line d) 0)
  unfolding joined put
  held_start = refl

  pub held_next : (k : ℕ) {p q : Output} → p ≡ put o (joined (held_line d) k) → q ≡ put p (held_line d k) → q ≡ put o (joined (held_line d) (k + 1))
  held_next k e h = rw (joined-next (held_line d) k) (put_then o (joined (held_line d) k) (held_line d k) e h)

  pub held-end : (k : ℕ) {p : Output} → k ≡ 20 → p ≡ put o (joined (held_line d) k) → p ≡ put o (joined (held_line d) 20)
  held-end k e h = h ∙ ap (λ n. put o (joined (held_line d) n)) e

-- ---- a gap's line
module _ (o : Output) (p : ℕ) where
  pub gap-none : (n : ℕ) → n ≡ 0 → o ≡ put o (gap_line p n)
  unfolding gap_line put
  gap-none n e = rw e

  gap_parts : (n : ℕ) → (n ≡ 0 → ⊥) → codes "gap " ++ ended p 32 ++ ended n 10 ≡ gap_line p n
  unfolding gap_line codes
  gap_parts zero z = absurd (z refl)
  gap_parts (suc n) z = simp append_assoc

  pub gap-put : (n : ℕ) → (n ≡ 0 → ⊥) → {q r s : Output} → q ≡ put o (codes "gap ") → r ≡ put q (ended p 32) → s ≡ put r (ended n 10) → s ≡ put o (gap_line p n)
  gap-put n z e f g = rw (← gap_parts n z) (put_then o _ _ (put_then o (codes "gap ") (ended p 32) e f) g)

-- ---- where the files stand
pub drawer-apart : (d : List ℕ) {offs lens : List ℕ} → offs ≡ offsets_of 20 d → lens ≡ lengths_of 20 d → drawer_fault 20 d ≡ 0 → stand_apart 20 offs lens (length d) 20 ≡ true
drawer-apart d os ls e = rw (os, ls) (laid_so 20 (offsets_of 20 d) (lengths_of 20 d) (length d) (drawer-laid 20 d e))

-- ---- the last line
module _ (o : Output) (d : List ℕ) where
  free-parts : codes "free " ++ ended (free_bytes d) 32 ++ codes "of " ++ ended (length d) 10 ≡ free_line d
  unfolding free_line codes
  free-parts = simp append_assoc

  pub free-put : {lens : List ℕ} {a f : ℕ} → lens ≡ lengths_of 20 d → a ≡ all_lengths 20 lens → f ≡ length d - (164 + a) → {p q r s : Output} → p ≡ put o (codes "free ") → q ≡ put p (ended f 32) → r ≡ put q (codes "of ") → s ≡ put r (ended (length d) 10) → s ≡ put o (free_line d)
  unfolding free_bytes header_size
  free-put ls a is e f g h =
      let same : length d - (164 + all_lengths 20 (lengths_of 20 d)) ≡ free_bytes d = refl in
      rw (← free-parts) (put_then o _ _ (put_then o _ _ (put_then o (codes "free ") (ended (free_bytes d) 32) e (rw (is, a, ls, same) at f)) g) h)

  -- ---- the whole text
  pub drawer-put : {offs lens : List ℕ} → offs ≡ offsets_of 20 d → lens ≡ lengths_of 20 d → {p q r : Output} → p ≡ put o (joined (held_line d) 20) → q ≡ put p (gap_lines 20 offs lens (length d - 164) 164) → r ≡ put q (free_line d) → r ≡ put o (drawer_text d)
  unfolding drawer_text header_size
  drawer-put os ls e f g = put_then o _ _ (put_then o (joined (held_line d) 20) _ e (rw (os, ls) at f)) g

  module _ {x : ℕ} (is : x ≡ drawer_fault 20 d) where
    pub list_put : x ≡ 0 → {p : Output} → p ≡ put o (drawer_text d) → p ≡ put o (list_text d)
    unfolding list_text
    list_put z e = rw (eq-eqb (drawer_fault 20 d) 0 (sym is ∙ z)) e

    pub list-refused : (x ≡ 0 → ⊥) → {p : Output} → p ≡ put o (counted (codes "bundle ") x) → p ≡ put o (list_text d)
    unfolding list_text refusal_text
    list-refused z e = rw (← is, ne_eqb x 0 z) e

  pub change-put : (k : ℕ) {p q : Output} → p ≡ put o (held_line d k) → q ≡ put p (free_line d) → q ≡ put o (change_text d k)
  unfolding change_text
  change-put k e f = put_then o (held_line d k) (free_line d) e f
